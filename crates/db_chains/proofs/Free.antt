-- What is left of an image where a block is taken or freed.
use Rattle.std.proofs.Common.{◌≡◌, ◌≢◌, ℕ, ◌+◌, ◌-◌, ◌/◌, ◌%◌, ◌<◌, ◌≤◌, ◌⊎◌, inl, inr, Bool, true, false, cond, List, [], ◌∷◌, length, drop, refl, sym, ap, subst, ◌∙◌, ⊎_elim, arith}
use Rattle.std.specs.Prelude.{◌==◌, slice_get, unwrap_or}
use Rattle.std.specs.List.{AllByRecursion}
use Rattle.std.proofs.lemmas.Bool.{cases_order, eq-eqb, ne_eqb}
use Rattle.db_blocks.specs.Blocks.{block_count, block_in, block_place, with_block, word_at}
use Rattle.db_blocks.proofs.BlockPlaces.{IsPut, put_block, add_block}
use Rattle.db_blocks.proofs.Scanned.{count_is}
use Rattle.db_chains.specs.declared.free_blocks.FreeBlocks.{FreeBlocks}
use Rattle.db_chains.specs.declared.links.Links.{Links}
use Rattle.db_chains.specs.Chains.{HasChain}
use Rattle.db_chains.specs.Changes.{IsHeadPlace, put_word, taken_out}
use Rattle.db_chains.specs.Free.{AreFree, IsTaken, free_links, with_new}
use Rattle.db_chains.specs.Links.{block_of, next_place}
use Rattle.db_chains.specs.Others.{AreApart, NamesSame}
use Rattle.db_chains.proofs.Bytes.{StaysBut, word_here, word_len, word_put, word_stays}
use Rattle.db_chains.proofs.Framed.{block_stays, head_word, named_stays}
use Rattle.db_chains.proofs.Counted.{others_behind}
use Rattle.db_chains.proofs.Words.{right_names, right_some}

-- ---- words of free blocks are the numbers of blocks

pub by_one : (w : ℕ) → w / 1 ≡ w
by_one w = omega arith

pub none_left : (w : ℕ) → w % 1 ≡ 0
none_left w = omega arith

pub head_place : (f : FreeBlocks) → AreFree f → IsHeadPlace (free_links f) f.first
head_place f free = inl free.first

-- the blocks of words other than a number are others
pub others_named : (f : FreeBlocks) (old new : List ℕ) (at n : ℕ) (ws : List ℕ) → 0 < n → HasChain (free_links f) old at ws
    → AllByRecursion (λ v. v ≢ n) ws
    → ((k : ℕ) → k < block_count f.head old → k ≢ n - 1 → block_in f.head new k ≡ block_in f.head old k)
    → NamesSame (free_links f) old new ws
others_named f old new at n [] some chain others same = tt
others_named f old new at n (v ∷ ws) some chain others same =
    let r = right_names (free_links f) old v chain.1 in
    let one = by_one v in (
      same (block_of (free_links f) v) (omega (arith, r.some, r.block, one))
          (λ is. others.0 (omega (arith, r.some, one, is, some))),
      others_named f old new (next_place (free_links f) v) n ws some chain.2 others.1 same,
    )

-- ---- a block is taken from the free ones

when_false : (b : Bool) (x y : ℕ) → b ≡ false → y ≡ cond b x y
when_false true x y is = absurd cc
when_false false x y is = refl

when_true : (b : Bool) (x y : ℕ) → b ≡ true → x ≡ cond b x y
when_true true x y is = refl
when_true false x y is = absurd cc

other_way : (p q : ℕ) → AreApart p q → AreApart q p
other_way p q apart = ⊎_elim (λ (a : p + 4 ≤ q). inr a) (λ (b : q + 4 ≤ p). inl b) apart

-- the words that change are the chain's first one, and one of the block
pub record IsOut (f : FreeBlocks) (image mid : List ℕ) (w : ℕ) : Type 0 where
  pub size : length mid ≡ length image
  pub others : (k : ℕ) → k < block_count f.head image → k ≢ w - 1 → block_in f.head mid k ≡ block_in f.head image k
  pub words : (p : ℕ) → p + 4 ≤ f.head → AreApart p f.first → word_at mid p ≡ word_at image p

pub beside : (head j k offset : ℕ) → offset + 4 ≤ 192 → k ≢ j
    → (block_place head k + 192 ≤ block_place head j + offset) ⊎ (block_place head j + offset + 4 ≤ block_place head k)
beside head j k offset fits other =
    ⊎_elim (λ (same : k ≡ j). absurd (other same))
    (λ (order : (k < j) ⊎ (j < k)). ⊎_elim (λ (less : k < j). inl (omega arith)) (λ (more : j < k). inr (omega arith)) order)
    (cases_order k j)

-- the next word of a free block, beside the other blocks
pub next_beside : (f : FreeBlocks) (w k : ℕ) → AreFree f → 0 < w → k ≢ w - 1
    → (block_place f.head k + 192 ≤ next_place (free_links f) w) ⊎ (next_place (free_links f) w + 4 ≤ block_place f.head k)
next_beside f w k free some other =
    let one = by_one w in
    let rest = none_left w in
    let fits = free.links.within in
    ⊎_elim (λ (before : block_place f.head k + 192 ≤ block_place f.head (w - 1) + f.next). inl (omega arith))
    (λ (behind : block_place f.head (w - 1) + f.next + 4 ≤ block_place f.head k). inr (omega arith))
    (beside f.head (w - 1) k f.next (omega arith) other)

pub next_room : (f : FreeBlocks) (w count : ℕ) → AreFree f → 0 < w → w ≤ count
    → (next_place (free_links f) w + 4 ≤ block_place f.head count) × (f.head ≤ next_place (free_links f) w)
next_room f w count free some within =
    let one = by_one w in
    let rest = none_left w in
    let fits = free.links.within in
    (omega arith, omega arith)

pub is_out : (f : FreeBlocks) (image : List ℕ) (count w : ℕ) → AreFree f → length image ≡ block_place f.head count
    → word_at image f.first ≡ w → 0 < w → w ≤ count → IsOut f image (taken_out (free_links f) f.first image) w
unfolding taken_out
is_out f image count w free size is some within =
    let l = free_links f in
    let x = word_at image (next_place l w) in
    let q = next_place l w in
    let mid = put_word f.first x image in
    let in_head = free.first in
    let n = next_room f w count free some within in
    let head : f.first + 4 ≤ length image = omega arith in
    let first : StaysBut f.first 4 image mid = word_put image f.first x head in
    let long : length mid ≡ length image = word_len image f.first x head in
    let room : q + 4 ≤ length mid = omega (arith, n.0) in
    let second : StaysBut q 4 mid (put_word q 0 mid) = word_put mid q 0 room in
    subst (λ (v : ℕ). IsOut f image (put_word (next_place l v) 0 (put_word f.first (word_at image (next_place l v)) image)) w) (sym is)
    record {
      size = word_len mid q 0 room ∙ long;
      others = λ k below other.
          block_stays f.head q 4 k mid (put_word q 0 mid) second (omega arith) (next_beside f w k free some other)
          ∙ block_stays f.head f.first 4 k image mid first (omega arith) (inr (omega arith));
      words = λ p inside apart.
          word_stays q 4 p mid (put_word q 0 mid) second (omega arith) (inl (omega (arith, n.1)))
          ∙ word_stays f.first 4 p image mid first (omega arith) apart;
    }

others_of_first : (l : Links) (image : List ℕ) (at w : ℕ) (ws : List ℕ) → 0 < l.step → word_at image at ≡ w → HasChain l image at ws
    → AllByRecursion (λ v. v ≢ w) (drop 1 ws)
others_of_first l image at w [] step is chain = tt
others_of_first l image at w (v ∷ ws) step is chain =
    subst (λ (n : ℕ). AllByRecursion (λ u. u ≢ n) ws) (sym chain.0 ∙ is) (others_behind l image at v ws step chain)

number_first : (l : Links) (image : List ℕ) (at w rest : ℕ) (ws : List ℕ) → word_at image at ≡ w → 0 < w → HasChain l image at ws
    → w ≡ unwrap_or (slice_get ws 0) rest
number_first l image at w rest [] is some chain = absurd (omega (arith, is, chain, some))
number_first l image at w rest (v ∷ ws) is some chain = sym is ∙ chain.0

pub taken_first : (f : FreeBlocks) (block image mid : List ℕ) (count w : ℕ) → AreFree f → length image ≡ block_place f.head count
    → length block ≡ 192 → word_at image f.first ≡ w → 0 < w → w ≤ count → IsOut f image mid w
    → ((ws : List ℕ) → HasChain (free_links f) image f.first ws → HasChain (free_links f) mid f.first (drop 1 ws))
    → IsTaken f block image w (with_block f.head (w - 1) block mid)
taken_first f block image mid count w free size len is some within out chains =
    let l = free_links f in
    let new = with_block f.head (w - 1) block mid in
    let m : block_count f.head image ≡ count = count_is f.head image count size in
    let n : block_count f.head mid ≡ count = count_is f.head mid count (out.size ∙ size) in
    let put : IsPut f.head (w - 1) block mid new count =
    put_block f.head mid block (w - 1) count (out.size ∙ size) len (omega arith) in
    let longer : length mid ≤ length new = omega (arith, put.size, out.size, size) in
    let full : (word_at image f.first == 0) ≡ false = ne_eqb (word_at image f.first) 0 (λ none. omega (arith, is, none, some)) in
    record {
      some = some;
      size = omega (arith, put.size, size, within);
      here = put.here;
      others = λ k below other. put.others k (omega (arith, below, m, n)) other ∙ out.others k below other;
      count = head_word f.head f.count mid new free.count put.front ∙ out.words f.count free.count (other_way f.first f.count free.apart)
          ∙ when_false (word_at image f.first == 0) w (word_at image f.count) full;
      words = λ p inside apart also. head_word f.head p mid new inside put.front ∙ out.words p inside apart;
      free = λ ws chain. (
        number_first l image f.first w (block_count f.head image + 1) ws is some chain,
        named_stays l f.first mid new (drop 1 ws) free.links longer (head_word f.head f.first mid new free.first put.front)
            (others_named f mid new f.first w (drop 1 ws) some (chains ws chain)
            (others_of_first l image f.first w ws free.links.step is chain) put.others)
            (chains ws chain),
      );
    }

-- ---- a new block is taken

none_free : (l : Links) (image new : List ℕ) (at n rest : ℕ) (ws : List ℕ) → 0 < l.step → word_at image at ≡ 0 → word_at new at ≡ 0
    → n ≡ rest → HasChain l image at ws → (n ≡ unwrap_or (slice_get ws 0) rest) × HasChain l new at (drop 1 ws)
none_free l image new at n rest [] step none still is chain = (is, still)
none_free l image new at n rest (w ∷ ws) step none still is chain = absurd (right_some l image w step chain.1 (sym chain.0 ∙ none))

pub taken_new : (f : FreeBlocks) (block image : List ℕ) (count : ℕ) → AreFree f → length image ≡ block_place f.head count
    → length block ≡ 192 → word_at image f.first ≡ 0 → IsTaken f block image (count + 1) (with_new f count block image)
unfolding with_new
taken_new f block image count free size len none =
    let l = free_links f in
    let m : block_count f.head image ≡ count = count_is f.head image count size in
    let mid = with_block f.head count block image in
    let put : IsPut f.head count block image mid (count + 1) = add_block f.head image block count size len in
    let long_mid = put.size in
    let in_head = free.count in
    let room : f.count + 4 ≤ length mid = omega arith in
    let new = put_word f.count (count + 1) mid in
    let stays : StaysBut f.count 4 mid new = word_put mid f.count (count + 1) room in
    let long : length new ≡ length mid = word_len mid f.count (count + 1) room in
    let back : count + 1 - 1 ≡ count = omega arith in
    record {
      some = omega arith;
      size = omega arith;
      here = ap (block_in f.head new) back
          ∙ block_stays f.head f.count 4 count mid new stays (omega arith) (inr (omega arith)) ∙ put.here;
      others = λ k below other.
          block_stays f.head f.count 4 k mid new stays (omega arith) (inr (omega arith)) ∙ put.others k below (λ same. omega arith);
      count = word_here mid f.count (count + 1) room
          ∙ when_true (word_at image f.first == 0) (count + 1) (word_at image f.count) (eq-eqb (word_at image f.first) 0 none);
      words = λ p inside apart also.
          word_stays f.count 4 p mid new stays (omega arith) also ∙ head_word f.head p image mid inside put.front;
      free = λ ws chain.
          none_free l image new f.first (count + 1) (block_count f.head image + 1) ws free.links.step none
          (word_stays f.count 4 f.first mid new stays (omega (arith, free.first)) free.apart
          ∙ head_word f.head f.first image mid free.first put.front ∙ none)
          (omega arith) chain;
    }
