-- What is made of an image where a block is freed.
use Rattle.std.proofs.Common.{◌≡◌, ◌≢◌, ℕ, ◌+◌, ◌-◌, ◌*◌, ◌%◌, ◌^◌, ◌<◌, ◌≤◌, ◌⊎◌, inl, inr, Bool, true, false, cond, List, [], ◌∷◌, ◌++◌, length, slice_index, refl, sym, ap, subst, ◌∙◌, ⊎_elim, arith}
use Rattle.std.specs.Prelude.{◌==◌, nat_lt}
use Rattle.std.specs.Int.{w32, from_be_bytes}
use Rattle.std.specs.List.{AllByRecursion}
use Rattle.std.proofs.lemmas.Bool.{and_from, cases_lt, cases_order, eq-eqb, le-ltb, lt-ltb}
use Rattle.std.proofs.lemmas.List.{take_at}
use Rattle.std.proofs.lemmas.Nat.{from_be_bytes-to_be_bytes_4}
use Rattle.db_blocks.specs.Blocks.{block_count, block_in, block_place, with_block, word_at}
use Rattle.db_blocks.specs.Bytes.{word, zeros}
use Rattle.db_blocks.proofs.BlockPlaces.{IsPut, put_block}
use Rattle.db_blocks.proofs.Scanned.{count_is}
use Rattle.db_chains.specs.declared.free_blocks.FreeBlocks.{FreeBlocks}
use Rattle.db_chains.specs.declared.links.Links.{Links}
use Rattle.db_chains.specs.Chains.{HasChain}
use Rattle.db_chains.specs.Changes.{place_above, put_in, put_word}
use Rattle.db_chains.specs.Free.{AreFree, IsAscending, IsBesideNext, IsFreed, blank, free_links, put_among, with_freed}
use Rattle.db_chains.specs.Links.{block_of, is_right, mark_place, names_block, next_place}
use Rattle.db_chains.specs.Others.{AreApart}
use Rattle.db_chains.specs.Walks.{place_behind}
use Rattle.db_chains.proofs.Apart.{next_fits}
use Rattle.db_chains.proofs.Bytes.{IsApart, StaysBut, word_len, word_put, word_stays}
use Rattle.db_chains.proofs.Changed.{chain_put_in, next_within}
use Rattle.db_chains.proofs.Framed.{block_mark, block_stays, byte_stays, head_word, named_stays}
use Rattle.db_chains.proofs.Free.{beside, by_one, head_place, next_beside, next_room, none_left, others_named}
use Rattle.db_chains.proofs.Stops.{above_behind}
use Rattle.db_chains.proofs.Words.{names_from, right, right_names}

-- ---- ascending lists

-- a list about a number that is not in it
pub record Split (n : ℕ) (ws : List ℕ) : Type 0 where
  pub below : List ℕ
  pub above : List ℕ
  pub whole : below ++ above ≡ ws
  pub put : below ++ n ∷ above ≡ put_among n ws
  pub less : AllByRecursion (λ v. v < n) below
  pub more : AllByRecursion (λ v. n < v) above

among_here : (b : Bool) (n w : ℕ) (ws more : List ℕ) → b ≡ true → n ∷ w ∷ ws ≡ cond b (n ∷ w ∷ ws) (w ∷ more)
among_here true n w ws more is = refl
among_here false n w ws more is = absurd cc

among_behind : (b : Bool) (n w : ℕ) (ws more : List ℕ) → b ≡ false → w ∷ more ≡ cond b (n ∷ w ∷ ws) (w ∷ more)
among_behind true n w ws more is = absurd cc
among_behind false n w ws more is = refl

all_more : (n w : ℕ) (ws : List ℕ) → n < w → AllByRecursion (λ v. w < v) ws → AllByRecursion (λ v. n < v) ws
all_more n w [] less all = tt
all_more n w (v ∷ ws) less all = (omega (arith, less, all.0), all_more n w ws less all.1)

pub split : (n : ℕ) (ws : List ℕ) → IsAscending ws → AllByRecursion (λ v. v ≢ n) ws → Split n ws
split n [] up others = record { below = []; above = []; whole = refl; put = refl; less = tt; more = tt }
split n (w ∷ ws) up others =
    ⊎_elim
    (λ (less : n < w). record {
      below = [];
      above = w ∷ ws;
      whole = refl;
      put = among_here (nat_lt n w) n w ws (put_among n ws) (lt-ltb n w less);
      less = tt;
      more = (less, all_more n w ws less up.0);
    })
    (λ (more : w ≤ n).
    let s = split n ws up.1 others.1 in
    record {
      below = w ∷ s.below;
      above = s.above;
      whole = ap (λ (t : List ℕ). w ∷ t) s.whole;
      put = ap (λ (t : List ℕ). w ∷ t) s.put ∙ among_behind (nat_lt n w) n w ws (put_among n ws) (le-ltb n w more);
      less = (omega (arith, more, others.0), s.less);
      more = s.more;
    })
    (cases_lt n w)

among_all : (w n : ℕ) (ws : List ℕ) → w < n → AllByRecursion (λ v. w < v) ws → AllByRecursion (λ v. w < v) (put_among n ws)
among_all w n [] less all = (less, tt)
among_all w n (u ∷ ws) less all =
    ⊎_elim
    (λ (before : n < u). subst (AllByRecursion (λ v. w < v)) (among_here (nat_lt n u) n u ws (put_among n ws) (lt-ltb n u before))
    (less, all))
    (λ (behind : u ≤ n). subst (AllByRecursion (λ v. w < v)) (among_behind (nat_lt n u) n u ws (put_among n ws) (le-ltb n u behind))
    (all.0, among_all w n ws less all.1))
    (cases_lt n u)

pub among_up : (n : ℕ) (ws : List ℕ) → IsAscending ws → AllByRecursion (λ v. v ≢ n) ws → IsAscending (put_among n ws)
among_up n [] up others = (tt, tt)
among_up n (w ∷ ws) up others =
    ⊎_elim
    (λ (before : n < w). subst IsAscending (among_here (nat_lt n w) n w ws (put_among n ws) (lt-ltb n w before))
    ((before, all_more n w ws before up.0), up))
    (λ (behind : w ≤ n). subst IsAscending (among_behind (nat_lt n w) n w ws (put_among n ws) (le-ltb n w behind))
    (among_all w n ws (omega (arith, behind, others.0)) up.0, among_up n ws up.1 others.1))
    (cases_lt n w)

-- ---- a blank block

pub blank_len : (f : FreeBlocks) → length (blank f) ≡ 192
unfolding zeros
blank_len f = refl

blank_mark : (f : FreeBlocks) → f.mark < 2 ^ 32 → word_at (blank f) 0 ≡ f.mark
blank_mark f fits = ap (from_be_bytes w32) (take_at (word f.mark) (zeros 188) 4 refl) ∙ from_be_bytes-to_be_bytes_4 f.mark fits

-- a blank block of an image may stand among the free ones
blank_right : (f : FreeBlocks) (image : List ℕ) (count n : ℕ) → f.mark < 2 ^ 32 → length image ≡ block_place f.head count → 0 < n
    → n ≤ count → block_in f.head image (n - 1) ≡ blank f → is_right (free_links f) image n ≡ true
unfolding is_right
blank_right f image count n fits size some within is =
    let l = free_links f in
    let m : block_count f.head image ≡ count = count_is f.head image count size in
    let one = by_one n in
    let rest = none_left n in
    and_from (names_block l (block_count f.head image) n) (word_at image (mark_place l n) == f.mark)
    (names_from l (block_count f.head image) n record { some = omega arith; block = omega arith; kind = omega arith })
    (eq-eqb (word_at image (mark_place l n)) f.mark
    (ap (λ (k : ℕ). word_at image (block_place f.head (k - 1))) one ∙ sym (block_mark f.head (n - 1) image)
    ∙ ap (λ (b : List ℕ). word_at b 0) is ∙ blank_mark f fits))

-- ---- the place where the word comes in

place_kind : (l : Links) (image : List ℕ) (at : ℕ) (below more : List ℕ) → HasChain l image at (below ++ more)
    → (place_behind l at below ≡ at) ⊎ ((b : ℕ) × (place_behind l at below ≡ next_place l b) × (is_right l image b ≡ true))
place_kind l image at [] more chain = inl refl
place_kind l image at (b ∷ below) more chain =
    ⊎_elim (λ (here : place_behind l (next_place l b) below ≡ next_place l b). inr (b, here, chain.1))
    (λ (later : (c : ℕ) × (place_behind l (next_place l b) below ≡ next_place l c) × (is_right l image c ≡ true)). inr later)
    (place_kind l image (next_place l b) below more chain.2)

byte_beside : (head j k offset i : ℕ) → offset + 4 ≤ 192 → i < 192 → (i < offset) ⊎ (offset + 4 ≤ i)
    → (block_place head k + i < block_place head j + offset) ⊎ (block_place head j + offset + 4 ≤ block_place head k + i)
byte_beside head j k offset i fits below apart =
    ⊎_elim
    (λ (same : k ≡ j). ⊎_elim (λ (before : i < offset). inl (omega arith)) (λ (behind : offset + 4 ≤ i). inr (omega arith)) apart)
    (λ (order : (k < j) ⊎ (j < k)). ⊎_elim (λ (less : k < j). inl (omega arith)) (λ (more : j < k). inr (omega arith)) order)
    (cases_order k j)

-- the next word of a free block, and a byte that is none of such a word
byte_next : (f : FreeBlocks) (b k i : ℕ) → AreFree f → i < 192 → IsBesideNext f i
    → (block_place f.head k + i < next_place (free_links f) b) ⊎ (next_place (free_links f) b + 4 ≤ block_place f.head k + i)
byte_next f b k i free below apart =
    let j = block_of (free_links f) b in
    let rest = none_left b in
    let fits = free.links.within in
    ⊎_elim (λ (before : block_place f.head k + i < block_place f.head j + f.next). inl (omega arith))
    (λ (behind : block_place f.head j + f.next + 4 ≤ block_place f.head k + i). inr (omega arith))
    (byte_beside f.head j k f.next i (omega arith) below apart)

-- it is the head's, or that of a free block: beside each block that is not free, and each other word of the head
pub record IsFreePlace (f : FreeBlocks) (image : List ℕ) (p : ℕ) : Type 0 where
  pub within : p + 4 ≤ length image
  pub blocks : (k : ℕ) → word_at image (block_place f.head k) ≢ f.mark
      → (block_place f.head k + 192 ≤ p) ⊎ (p + 4 ≤ block_place f.head k)
  pub words : (q : ℕ) → q + 4 ≤ f.head → AreApart q f.first → IsApart p 4 q
  pub bytes : (k i : ℕ) → i < 192 → IsBesideNext f i → (block_place f.head k + i < p) ⊎ (p + 4 ≤ block_place f.head k + i)

free_place : (f : FreeBlocks) (image : List ℕ) (count p : ℕ) (below more : List ℕ) → AreFree f → length image ≡ block_place f.head count
    → HasChain (free_links f) image f.first (below ++ more) → p ≡ place_behind (free_links f) f.first below → IsFreePlace f image p
free_place f image count p below more free size chain is =
    let l = free_links f in
    let in_head = free.first in
    ⊎_elim
    (λ (here : place_behind l f.first below ≡ f.first).
    subst (IsFreePlace f image) (sym (is ∙ here)) record {
      within = omega arith;
      blocks = λ k other. inr (omega arith);
      words = λ q inside apart. apart;
      bytes = λ k i below beside. inr (omega arith);
    })
    (λ (there : (b : ℕ) × (place_behind l f.first below ≡ next_place l b) × (is_right l image b ≡ true)).
    let b = there.0 in
    let names = right_names l image b there.2 in
    let kind = names.kind in
    subst (IsFreePlace f image) (sym (is ∙ there.1)) record {
      within = (next_within l image b free.links there.2).0;
      blocks = λ k other.
          beside f.head (block_of l b) k (f.next + 4 * (b % 1)) (next_fits l b free.links kind)
          (λ same. other (ap (λ (j : ℕ). word_at image (block_place f.head j)) same ∙ (right l image b there.2).mark));
      words = λ q inside apart. inl (omega arith);
      bytes = λ k i below beside. byte_next f b k i free below beside;
    })
    (place_kind l image f.first below more chain)

-- ---- a block is freed

freed_at : (f : FreeBlocks) (image mid : List ℕ) (count n p : ℕ) (ws : List ℕ) → AreFree f → length image ≡ block_place f.head count
    → IsPut f.head (n - 1) (blank f) image mid count → 0 < n → n ≤ count → IsFreePlace f image p
    → IsAscending (put_among n ws) → HasChain (free_links f) (put_in (free_links f) p n mid) f.first (put_among n ws)
    → IsFreed f ws n image (put_in (free_links f) p n mid)
unfolding put_in
freed_at f image mid count n p ws free size put some below place up chain =
    let l = free_links f in
    let q = next_place l n in
    let x = word_at mid p in
    let long_mid = put.size in
    let m : block_count f.head image ≡ count = count_is f.head image count size in
    let r = next_room f n count free some below in
    let room : q + 4 ≤ length mid = omega (arith, r.0) in
    let one : StaysBut q 4 mid (put_word q x mid) = word_put mid q x room in
    let long : length (put_word q x mid) ≡ length mid = word_len mid q x room in
    let inside_p = place.within in
    let room_p : p + 4 ≤ length (put_word q x mid) = omega arith in
    let two : StaysBut p 4 (put_word q x mid) (put_word p n (put_word q x mid)) = word_put (put_word q x mid) p n room_p in
    record {
      size = omega (arith, word_len (put_word q x mid) p n room_p);
      free = chain;
      ascending = up;
      blank = λ i less apart.
          byte_stays f.head p 4 (n - 1) i (put_word q x mid) (put_word p n (put_word q x mid)) two (omega arith) less
          (place.bytes (n - 1) i less apart)
          ∙ byte_stays f.head q 4 (n - 1) i mid (put_word q x mid) one (omega arith) less (byte_next f n (n - 1) i free less apart)
          ∙ ap (λ (b : List ℕ). slice_index b i) put.here;
      kept = λ k i among other less apart.
          byte_stays f.head p 4 k i (put_word q x mid) (put_word p n (put_word q x mid)) two (omega arith) less
          (place.bytes k i less apart)
          ∙ byte_stays f.head q 4 k i mid (put_word q x mid) one (omega arith) less (byte_next f n k i free less apart)
          ∙ ap (λ (b : List ℕ). slice_index b i) (put.others k among other);
      others = λ k less other mark.
          block_stays f.head p 4 k (put_word q x mid) (put_word p n (put_word q x mid)) two (omega arith) (place.blocks k mark)
          ∙ block_stays f.head q 4 k mid (put_word q x mid) one (omega arith) (next_beside f n k free some other)
          ∙ put.others k less other;
      words = λ w inside apart.
          word_stays p 4 w (put_word q x mid) (put_word p n (put_word q x mid)) two (omega arith) (place.words w inside apart)
          ∙ word_stays q 4 w mid (put_word q x mid) one (omega arith) (inl (omega (arith, r.1)))
          ∙ head_word f.head w image mid inside put.front;
    }

pub freed : (f : FreeBlocks) (image : List ℕ) (count n : ℕ) (ws : List ℕ) → AreFree f
    → length image ≡ block_place f.head count → 0 < n → n ≤ count
    → HasChain (free_links f) image f.first ws → IsAscending ws → AllByRecursion (λ v. v ≢ n) ws
    → IsFreed f ws n image (with_freed f n image)
unfolding with_freed
freed f image count n ws free size some within chain up others =
    let l = free_links f in
    let mid = with_block f.head (n - 1) (blank f) image in
    let put : IsPut f.head (n - 1) (blank f) image mid count =
    put_block f.head image (blank f) (n - 1) count size (blank_len f) (omega arith) in
    let long = put.size in
    let in_head = free.first in
    let kept : HasChain l mid f.first ws =
    named_stays l f.first image mid ws free.links (omega arith) (head_word f.head f.first image mid free.first put.front)
    (others_named f image mid f.first n ws some chain others put.others) chain in
    let s = split n ws up others in
    let old : HasChain l image f.first (s.below ++ s.above) = subst (HasChain l image f.first) (sym s.whole) chain in
    let now : HasChain l mid f.first (s.below ++ s.above) = subst (HasChain l mid f.first) (sym s.whole) kept in
    let behind : place_above l f.first n image ≡ place_behind l f.first s.below =
    above_behind l image f.first n s.below s.above free.links.step old s.less s.more in
    let made : HasChain l (put_in l (place_behind l f.first s.below) n mid) f.first (s.below ++ n ∷ s.above) =
    chain_put_in l mid f.first n s.below s.above free.links (head_place f free) (omega arith) now
    record {
      right = blank_right f mid count n free.mark put.size some within put.here;
      new = subst (AllByRecursion (λ v. v ≢ n)) (sym s.whole) others;
    } in
    subst (λ (p : ℕ). IsFreed f ws n image (put_in l p n mid)) (sym behind)
    (freed_at f image mid count n (place_behind l f.first s.below) ws free size put some within
    (free_place f image count (place_behind l f.first s.below) s.below s.above free size old refl)
    (among_up n ws up others)
    (subst (HasChain l (put_in l (place_behind l f.first s.below) n mid) f.first) s.put made))
