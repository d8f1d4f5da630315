-- The block that a list takes is the lowest free one, and so it is without the words of chains.
use Rattle.std.proofs.Common.{◌≡◌, ◌≢◌, ℕ, zero, suc, ◌+◌, ◌-◌, ◌<◌, ◌≤◌, inl, inr, Bool, cond, List, [], ◌∷◌, length, drop, max, refl, sym, ap, subst, ◌∙◌, ⊎_elim, arith}
use Rattle.std.specs.Prelude.{nat_lt}
use Rattle.std.specs.List.{AllByRecursion, Contains}
use Rattle.std.proofs.lemmas.Bool.{cases_eq, cases_lt, eq-eqb, eqb-true, le-ltb, lt-ltb, ne_eqb}
use Rattle.ubik_types.specs.Image.{changed}
use Rattle.ubik_types.specs.declared.images.Change.TheVariants.{Put}
use Rattle.db_blocks.specs.Blocks.{IsWhole, with_block as any_with, word_at, kind_of}
use Rattle.db_blocks.specs.Bytes.{number_word, zeros}
use Rattle.db_blocks.proofs.FirstBlocks.{first_at, first_met, first_none, first_within}
use Rattle.db_chains.specs.Chains.{HasChain}
use Rattle.db_chains.specs.Changes.{put_word, taken_out}
use Rattle.db_chains.specs.Free.{AreFree, IsAscending, IsTaken, free_links, next_number, with_new, with_taken}
use Rattle.db_chains.specs.Links.{next_place}
use Rattle.db_chains.proofs.Bytes.{StaysBut, word_len, word_put}
use Rattle.db_chains.proofs.Changed.{chain_taken_out}
use Rattle.db_chains.proofs.Framed.{block_stays}
use Rattle.db_chains.proofs.Free.{is_out, taken_first, taken_new}
use Rattle.prdb_layout.specs.Blocks.{block_count}
use Rattle.prdb_layout.specs.Records.{IsLaidOut, block_in, block_place, entry_in, is_free, next_block, with_block, with_count}
use Rattle.prdb_layout.specs.Registry.{Registry}
use Rattle.prdb_layout.proofs.LaidOut.{zero_kind}
use Rattle.prdb_lists.specs.Changes.{with_free}
use Rattle.prdb_lists.proofs.FreeBlock.{free_zero}
use Rattle.prdb_lists.proofs.RecordsKeep.{zeros_len}
use Rattle.prdb_finds.specs.Places.{free_blocks}
use Rattle.prdb_finds.specs.Unchained.{unchained, unlinked}
use Rattle.prdb_finds.proofs.Beside.{free_beside, head_beside, put_whole}
use Rattle.prdb_finds.proofs.Fields.{free_unlinked}
use Rattle.prdb_finds.proofs.Laid.{block_added, block_laid, head_laid, same_image}
use Rattle.prdb_finds.proofs.Lookups.{same_block}
use Rattle.prdb_finds.proofs.Without.{unchained_count, unchained_kind}
use Rattle.prdb_members.proofs.Kept.{KeepsEntries, Names, names_of}
use Rattle.db_blocks.proofs.Scanned.{count_is}
use Rattle.db_blocks.proofs.BlockPlaces.{IsPut, add_block, put_block}

pub are_free : AreFree free_blocks
are_free = record {
  links = record { head = omega arith; step = omega arith; mark = omega arith; within = omega arith };
  first = omega arith;
  count = omega arith;
  apart = inr (omega arith);
  mark = omega arith;
}

-- ---- the free chain

pub all_has : (P : ℕ → Type 0) (ws : List ℕ) (v : ℕ) → AllByRecursion P ws → Contains ws v → P v
all_has P [] v all has = absurd (omega (arith, has.1))
all_has P (w ∷ ws) v all (zero, below, is) = subst P is all.0
all_has P (w ∷ ws) v all (suc i, below, is) = all_has P ws v all.1 (i, omega arith, is)

pub chain_names : (image : List ℕ) (at : ℕ) (ws : List ℕ) (w : ℕ) → HasChain (free_links free_blocks) image at ws → Contains ws w
    → Names 0 image w
chain_names image at [] w chain has = absurd (omega (arith, has.1))
chain_names image at (v ∷ ws) w chain (zero, below, is) = subst (Names 0 image) is (names_of 0 4 image v chain.1)
chain_names image at (v ∷ ws) w chain (suc i, below, is) =
    chain_names image (next_place (free_links free_blocks) v) ws w chain.2 (i, omega arith, is)

lowest : (w : ℕ) (ws : List ℕ) (j : ℕ) → IsAscending (w ∷ ws) → Contains (w ∷ ws) (j + 1) → j < w - 1 → ⊥
lowest w ws j up (zero, below, is) less = omega (arith, is, less)
lowest w ws j up (suc i, below, is) less =
    let more : w < j + 1 = all_has (λ v. w < v) ws (j + 1) up.0 (i, omega arith, is) in omega (arith, more, less)

-- each free block is among these
abbrev pub AreAll : (image ws : List ℕ) → Type 0
AreAll image ws = (k : ℕ) → k < block_count image → kind_of (block_in image k) ≡ 0 → Contains ws (k + 1)

-- ---- which block is taken

pub number_none : (image : List ℕ) → word_at image 20 ≡ 0 → next_number free_blocks image ≡ block_count image + 1
number_none image none =
    ap (λ (b : Bool). cond b (block_count image + 1) (word_at image 20)) (eq-eqb (word_at image 20) 0 none)

pub number_some : (image : List ℕ) (w : ℕ) → word_at image 20 ≡ w → w ≢ 0 → next_number free_blocks image ≡ w
number_some image w is some =
    ap (λ (b : Bool). cond b (block_count image + 1) (word_at image 20))
    (ne_eqb (word_at image 20) 0 (λ zero_there. some (sym is ∙ zero_there)))
    ∙ is

taken_none : (block image : List ℕ) → word_at image 20 ≡ 0
    → with_taken free_blocks block image ≡ with_new free_blocks (block_count image) block image
unfolding with_taken
taken_none block image none =
    ap (λ (b : Bool).
    cond b (with_new free_blocks (block_count image) block image)
    (any_with 2112 (word_at image 20 - 1) block (taken_out (free_links free_blocks) 20 image))) (eq-eqb (word_at image 20) 0 none)

taken_some : (block image : List ℕ) (w : ℕ) → word_at image 20 ≡ w → w ≢ 0
    → with_taken free_blocks block image ≡ with_block (w - 1) block (taken_out (free_links free_blocks) 20 image)
unfolding with_taken
taken_some block image w is some =
    ap (λ (b : Bool).
    cond b (with_new free_blocks (block_count image) block image)
    (any_with 2112 (word_at image 20 - 1) block (taken_out (free_links free_blocks) 20 image)))
    (ne_eqb (word_at image 20) 0 (λ zero_there. some (sym is ∙ zero_there)))
    ∙ ap (λ (v : ℕ). with_block (v - 1) block (taken_out (free_links free_blocks) 20 image)) is

pub next_same : (image ws : List ℕ) → IsWhole 2112 image → HasChain (free_links free_blocks) image 20 ws → IsAscending ws → AreAll image ws
    → next_number free_blocks image - 1 ≡ next_block (unchained image)
next_same image [] size chain up all =
    let u = unchained image in
    let count : block_count u ≡ block_count image = unchained_count image size in
    let none : next_block u ≡ 0 + block_count u =
    first_none (λ k. is_free (block_in u k)) 0 (block_count u)
    (λ j from below.
    ne_eqb (kind_of (block_in u j)) 0
    (λ free.
    let less : j < block_count image = omega (arith, below, count) in
    let has = all j less (sym (unchained_kind image j size less) ∙ free) in
    omega (arith, has.1))) in
    omega (arith, number_none image chain, none, count)
next_same image (w ∷ ws) size chain up all =
    let u = unchained image in
    let count : block_count u ≡ block_count image = unchained_count image size in
    let r = names_of 0 4 image w chain.1 in
    let number : next_number free_blocks image ≡ w = number_some image w chain.0 (λ none. omega (arith, r.some, none)) in
    let first : next_block u ≡ w - 1 =
    first_at (λ k. is_free (block_in u k)) 0 (block_count u) (w - 1) (omega arith) (omega (arith, r.below, count))
    (λ j from below.
    ne_eqb (kind_of (block_in u j)) 0
    (λ free.
    let less : j < block_count image = omega (arith, below, r.below) in
    lowest w ws j up (all j less (sym (unchained_kind image j size less) ∙ free)) below))
    (eq-eqb (kind_of (block_in u (w - 1))) 0 (unchained_kind image (w - 1) size r.below ∙ r.kind)) in
    omega (arith, number, first)

-- ---- the image without the words of chains

unchained_new : (image block : List ℕ) → IsWhole 2112 image → length block ≡ 192
    → unchained (with_new free_blocks (block_count image) block image)
    ≡ with_count (block_count image + 1) (with_block (block_count image) (unlinked block) (unchained image))
unfolding with_new put_word
unchained_new image block size len =
    let n = block_count image in
    let mid = with_block n block image in
    let put : IsPut 2112 n block image mid (n + 1) = add_block 2112 image block n size len in
    let count : block_count mid ≡ n + 1 = count_is 2112 mid (n + 1) put.size in
    head_laid mid (number_word (n + 1)) 16 (omega (arith, put.size, count)) (omega arith)
    ∙ ap (λ (i : List ℕ). changed i (Put 16 (number_word (n + 1)))) (block_added image block size len)

pub free_next : (w : ℕ) → next_place (free_links free_blocks) w ≡ block_place (w - 1) + 4
free_next w = omega arith

-- a free block that goes out of the chain
pub record IsOutOf (image mid : List ℕ) : Type 0 where
  pub size : length mid ≡ length image
  pub same : unchained mid ≡ unchained image

pub out_of : (image : List ℕ) (w : ℕ) → IsWhole 2112 image → word_at image 20 ≡ w → Names 0 image w
    → IsOutOf image (taken_out (free_links free_blocks) 20 image)
unfolding taken_out
out_of image w size is names =
    let l = free_links free_blocks in
    let x = word_at image (next_place l w) in
    let one = put_word 20 x image in
    let k = w - 1 in
    let room : 20 + 4 ≤ length image = omega (arith, size) in
    let stays : StaysBut 20 4 image one = word_put image 20 x room in
    let long : length one ≡ length image = word_len image 20 x room in
    let whole_one : IsWhole 2112 one = put_whole image 20 x size room in
    let below : k < block_count one = omega (arith, names.below, long) in
    let block : block_in one k ≡ block_in image k =
    sym (same_block one k) ∙ block_stays 2112 20 4 k image one stays (omega (arith, size, names.below)) (inr (omega arith))
    ∙ same_block image k in
    let kind : kind_of (block_in one k) ≡ 0 = ap kind_of block ∙ names.kind in
    let place : block_place k + 4 + 4 ≤ length one = omega (arith, whole_one, below) in
    let made : put_word (next_place l (word_at image 20)) 0 (put_word 20 (word_at image (next_place l (word_at image 20))) image)
    ≡ put_word (block_place k + 4) 0 one =
    ap (λ (v : ℕ). put_word (next_place l v) 0 (put_word 20 (word_at image (next_place l v)) image)) is
    ∙ ap (λ (p : ℕ). put_word p 0 one) (free_next w) in
    record {
      size = ap length made ∙ word_len one (block_place k + 4) 0 place ∙ long;
      same = ap unchained made ∙ free_beside one k 0 whole_one below kind ∙ head_beside image 20 x size (inl refl);
    }

-- a block in the lowest free place, or one more
abbrev pub with_next : List ℕ → List ℕ → List ℕ
with_next block u =
    cond (nat_lt (next_block u) (block_count u)) (with_block (next_block u) block u)
    (with_count (block_count u + 1) (with_block (block_count u) block u))

pub unchained_taken : (image block ws : List ℕ) → IsWhole 2112 image → length block ≡ 192
    → HasChain (free_links free_blocks) image 20 ws → IsAscending ws → AreAll image ws
    → unchained (with_taken free_blocks block image) ≡ with_next (unlinked block) (unchained image)
unchained_taken image block [] size len chain up all =
    let u = unchained image in
    let n = block_count image in
    let count : block_count u ≡ n = unchained_count image size in
    let next = next_same image [] size chain up all in
    let last : block_count u ≤ next_block u = omega (arith, next, number_none image chain, count) in
    ap unchained (taken_none block image chain) ∙ unchained_new image block size len
    ∙ ap (λ (m : ℕ). with_count (m + 1) (with_block m (unlinked block) u)) (sym count)
    ∙ sym (ap (λ (b : Bool).
    cond b (with_block (next_block u) (unlinked block) u) (with_count (block_count u + 1) (with_block (block_count u) (unlinked block) u)))
    (le-ltb (next_block u) (block_count u) last))
unchained_taken image block (w ∷ ws) size len chain up all =
    let u = unchained image in
    let r = names_of 0 4 image w chain.1 in
    let count : block_count u ≡ block_count image = unchained_count image size in
    let some : w ≢ 0 = λ none. omega (arith, r.some, none) in
    let next = next_same image (w ∷ ws) size chain up all in
    let number : next_number free_blocks image ≡ w = number_some image w chain.0 some in
    let at : w - 1 ≡ next_block u = ap (λ (m : ℕ). m - 1) (sym number) ∙ next in
    let below : next_block u < block_count u = omega (arith, at, r.below, count) in
    let mid = taken_out (free_links free_blocks) 20 image in
    let out = out_of image w size chain.0 r in
    ap unchained (taken_some block image w chain.0 some)
    ∙ block_laid mid block (w - 1) (omega (arith, out.size, size)) len (omega (arith, out.size, r.below))
    ∙ ap (with_block (w - 1) (unlinked block)) out.same ∙ ap (λ (m : ℕ). with_block m (unlinked block) u) at
    ∙ sym (ap (λ (b : Bool).
    cond b (with_block (next_block u) (unlinked block) u) (with_count (block_count u + 1) (with_block (block_count u) (unlinked block) u)))
    (lt-ltb (next_block u) (block_count u) below))

-- ---- a block of zero bytes

pub zeros_unlinked : unlinked (zeros 192) ≡ zeros 192
unfolding zeros
zeros_unlinked = free_unlinked (zeros 192) zero_kind ∙ refl

-- bytes that stand there already
put_same : (u block : List ℕ) (k : ℕ) → IsWhole 2112 u → k < block_count u → length block ≡ 192 → block_in u k ≡ block
    → with_block k block u ≡ u
put_same u block k size below len here =
    let n = block_count u in
    let put : IsPut 2112 k block u (with_block k block u) n = put_block 2112 u block k n size len below in
    same_image (with_block k block u) u n put.size size put.front
    (λ j less. ⊎_elim (λ (same : j ≡ k). ap (block_in (with_block k block u)) same ∙ put.here ∙ sym here ∙ ap (block_in u) (sym same))
    (λ (other : j ≢ k). put.others j less other) (cases_eq j k))

free_kind : (u : List ℕ) → next_block u < block_count u → kind_of (block_in u (next_block u)) ≡ 0
free_kind u below = eqb-true (kind_of (block_in u (next_block u))) 0 (first_met (λ j. is_free (block_in u j)) 0 (block_count u) (omega arith))

next_zero : (u : List ℕ) (r : Registry) → IsLaidOut u r → with_next (zeros 192) u ≡ with_free u
unfolding with_free
next_zero u r laid =
    let k = next_block u in
    let n = block_count u in
    let most : k ≤ 0 + n = first_within (λ j. is_free (block_in u j)) 0 n in
    ⊎_elim
    (λ (below : k < n).
    ap (λ (b : Bool). cond b (with_block k (zeros 192) u) (with_count (n + 1) (with_block n (zeros 192) u))) (lt-ltb k n below)
    ∙ put_same u (zeros 192) k laid.size below zeros_len (free_zero (block_in u k) (laid.blocks k below) (free_kind u below))
    ∙ sym (ap (λ (b : Bool). cond b u (with_count (n + 1) (with_block n (zeros 192) u))) (lt-ltb k n below)))
    (λ (last : n ≤ k).
    ap (λ (b : Bool). cond b (with_block k (zeros 192) u) (with_count (n + 1) (with_block n (zeros 192) u))) (le-ltb k n last)
    ∙ sym (ap (λ (b : Bool). cond b u (with_count (n + 1) (with_block n (zeros 192) u))) (le-ltb k n last)))
    (cases_lt k n)

pub taken_zero : (image ws : List ℕ) (r : Registry) → IsWhole 2112 image → IsLaidOut (unchained image) r
    → HasChain (free_links free_blocks) image 20 ws → IsAscending ws → AreAll image ws
    → unchained (with_taken free_blocks (zeros 192) image) ≡ with_free (unchained image)
taken_zero image ws r size laid chain up all =
    unchained_taken image (zeros 192) ws size zeros_len chain up all
    ∙ ap (λ (b : List ℕ). with_next b (unchained image)) zeros_unlinked ∙ next_zero (unchained image) r laid

-- ---- what a taken block leaves

left_chain : (image : List ℕ) (w : ℕ) (ws : List ℕ) → IsWhole 2112 image → word_at image 20 ≡ w → w ≢ 0
    → HasChain (free_links free_blocks) image 20 ws
    → HasChain (free_links free_blocks) (taken_out (free_links free_blocks) 20 image) 20 (drop 1 ws)
left_chain image w [] size is some chain = absurd (some (sym is ∙ chain))
left_chain image w (v ∷ ws) size is some chain =
    chain_taken_out (free_links free_blocks) image 20 v [] ws are_free.links (inl (omega arith)) (omega (arith, size)) chain

pub is_taken : (image block ws : List ℕ) → IsWhole 2112 image → length block ≡ 192 → HasChain (free_links free_blocks) image 20 ws
    → IsTaken free_blocks block image (next_number free_blocks image) (with_taken free_blocks block image)
is_taken image block [] size len chain =
    subst (λ (n : ℕ). IsTaken free_blocks block image n (with_taken free_blocks block image)) (sym (number_none image chain))
    (subst (IsTaken free_blocks block image (block_count image + 1)) (sym (taken_none block image chain))
    (taken_new free_blocks block image (block_count image) are_free size len chain))
is_taken image block (w ∷ ws) size len chain =
    let r = names_of 0 4 image w chain.1 in
    let some : w ≢ 0 = λ none. omega (arith, r.some, none) in
    let mid = taken_out (free_links free_blocks) 20 image in
    let within : w ≤ block_count image = omega (arith, r.some, r.below) in
    let out = is_out free_blocks image (block_count image) w are_free size chain.0 r.some within in
    subst (λ (n : ℕ). IsTaken free_blocks block image n (with_taken free_blocks block image)) (sym (number_some image w chain.0 some))
    (subst (IsTaken free_blocks block image w) (sym (taken_some block image w chain.0 some))
    (taken_first free_blocks block image mid (block_count image) w are_free size len chain.0 r.some within out
    (λ vs there. left_chain image w vs size chain.0 some there)))

-- which block it was
pub record IsSpare (image : List ℕ) (n : ℕ) : Type 0 where
  pub some : 0 < n
  pub within : n ≤ block_count image + 1
  pub free : n - 1 < block_count image → kind_of (block_in image (n - 1)) ≡ 0

pub is_spare : (image ws : List ℕ) → HasChain (free_links free_blocks) image 20 ws → IsSpare image (next_number free_blocks image)
is_spare image [] chain =
    subst (IsSpare image) (sym (number_none image chain)) record {
      some = omega arith;
      within = omega arith;
      free = λ below. absurd (omega arith);
    }
is_spare image (w ∷ ws) chain =
    let r = names_of 0 4 image w chain.1 in
    subst (IsSpare image) (sym (number_some image w chain.0 (λ none. omega (arith, r.some, none)))) record {
      some = r.some;
      within = omega (arith, r.some, r.below);
      free = λ below. r.kind;
    }

pub keeps_taken : (image block new : List ℕ) (n : ℕ) → IsWhole 2112 image → IsTaken free_blocks block image n new → kind_of block ≢ 1
    → IsSpare image n → KeepsEntries image new
keeps_taken image block new n size taken other spare =
    let c = block_count image in
    let whole_new : IsWhole 2112 new = omega (arith, taken.size, size, spare.some) in
    let count : block_count new ≡ max c n = omega (arith, taken.size, size, spare.some) in
    let here : block_in new (n - 1) ≡ block = sym (same_block new (n - 1)) ∙ taken.here in
    let same : (k : ℕ) → k < c → k ≢ n - 1 → block_in new k ≡ block_in image k =
    λ k below apart. sym (same_block new k) ∙ taken.others k below apart ∙ same_block image k in
    let apart : (k : ℕ) → k < c → kind_of (block_in image k) ≡ 1 → k ≢ n - 1 =
    λ k below one is. omega (
      arith,
      one,
      ap (λ (j : ℕ). kind_of (block_in image j)) is,
      spare.free (subst (λ (j : ℕ). j < c) is below),
    ) in
    record {
      size = whole_new;
      longer = omega (arith, count);
      head = λ p from to. taken.words p to (inr (omega arith)) (inr (omega arith));
      back = λ k below one.
          ⊎_elim
          (λ (is : k ≡ n - 1). absurd (other (ap kind_of (sym here) ∙ ap (λ (j : ℕ). kind_of (block_in new j)) (sym is) ∙ one)))
          (λ (differs : k ≢ n - 1).
          let less : k < c = omega (arith, below, count, spare.within, differs) in
          (less, ap kind_of (sym (same k less differs)) ∙ one))
          (cases_eq k (n - 1));
      kind = λ k below one. ap kind_of (same k below (apart k below one)) ∙ one;
      entry = λ k below one. ap entry_in (same k below (apart k below one));
      words = λ k offset below one from to. ap (λ (b : List ℕ). word_at b offset) (same k below (apart k below one));
    }
