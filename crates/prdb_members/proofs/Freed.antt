-- The block that a list frees is zero without the words of chains.
use Rattle.std.proofs.Common.{◌≡◌, ◌≢◌, ℕ, suc, ◌+◌, ◌-◌, ◌<◌, ◌≤◌, inl, inr, List, [], ◌∷◌, ◌++◌, length, refl, sym, ap, subst, ◌∙◌, ⊎_elim, arith}
use Rattle.std.specs.Prelude.{◌⊎◌}
use Rattle.std.specs.List.{AllByRecursion, Contains}
use Rattle.std.proofs.lemmas.Bool.{cases_eq}
use Rattle.std.proofs.lemmas.List.Elements.{Contains-append_cases, Contains-append_left, Contains-append_right}
use Rattle.db_blocks.specs.Blocks.{IsWhole, word_at, kind_of}
use Rattle.db_blocks.specs.Bytes.{zeros}
use Rattle.db_chains.specs.Chains.{HasChain}
use Rattle.db_chains.specs.Changes.{place_above, put_in, put_word}
use Rattle.db_chains.specs.Free.{IsAscending, IsFreed, blank, free_links, put_among, with_freed}
use Rattle.db_chains.specs.Links.{next_place}
use Rattle.db_chains.specs.Walks.{place_behind}
use Rattle.db_chains.proofs.Bytes.{word_len}
use Rattle.db_chains.proofs.Freed.{Split, freed, split}
use Rattle.db_chains.proofs.Stops.{above_behind}
use Rattle.prdb_layout.specs.Blocks.{block_count}
use Rattle.prdb_layout.specs.Records.{block_in, block_place, entry_in, with_block}
use Rattle.prdb_layout.proofs.LaidOut.{zero_kind}
use Rattle.prdb_lists.proofs.RecordsKeep.{zeros_len}
use Rattle.prdb_finds.specs.Places.{free_blocks}
use Rattle.prdb_finds.specs.Records.{HasFree}
use Rattle.prdb_finds.specs.Unchained.{unchained}
use Rattle.prdb_finds.proofs.Beside.{free_beside, head_beside}
use Rattle.prdb_finds.proofs.Laid.{block_laid}
use Rattle.prdb_finds.proofs.Lookups.{same_block}
use Rattle.prdb_finds.proofs.Without.{unchained_kind, unchained_len}
use Rattle.prdb_members.proofs.Kept.{KeepsEntries, Names, names_of, word_in}
use Rattle.prdb_members.proofs.Taken.{are_free, free_next, zeros_unlinked}
use Rattle.db_blocks.proofs.Scanned.{count_is}
use Rattle.db_blocks.proofs.BlockPlaces.{IsPut, put_block}

-- a word that is put behind words of the free chain
put_behind : (x image : List ℕ) (n at : ℕ) (below more : List ℕ) → HasChain (free_links free_blocks) image at (below ++ more)
    → unchained (put_word at n x) ≡ unchained x
    → ((w : ℕ) → Names 0 image w → unchained (put_word (next_place (free_links free_blocks) w) n x) ≡ unchained x)
    → unchained (put_word (place_behind (free_links free_blocks) at below) n x) ≡ unchained x
put_behind x image n at [] more chain here each = here
put_behind x image n at (b ∷ below) more chain here each =
    put_behind x image n (next_place (free_links free_blocks) b) below more chain.2 (each b (names_of 0 4 image b chain.1)) each

blank_zeros : blank free_blocks ≡ zeros 192
unfolding zeros
blank_zeros = refl

freed_is : (image : List ℕ) (f p : ℕ) → place_above (free_links free_blocks) 20 (f + 1) image ≡ p
    → with_freed free_blocks (f + 1) image ≡ put_in (free_links free_blocks) p (f + 1) (with_block f (zeros 192) image)
unfolding with_freed
freed_is image f p is =
    let back : f + 1 - 1 ≡ f = omega arith in
    ap (λ (q : ℕ). put_in (free_links free_blocks) q (f + 1) (with_block (f + 1 - 1) (blank free_blocks) image)) is
    ∙ ap (λ (k : ℕ). put_in (free_links free_blocks) p (f + 1) (with_block k (blank free_blocks) image)) back
    ∙ ap (λ (b : List ℕ). put_in (free_links free_blocks) p (f + 1) (with_block f b image)) blank_zeros

put_is : (p n : ℕ) (mid : List ℕ)
    → put_in (free_links free_blocks) p n mid ≡ put_word p n (put_word (next_place (free_links free_blocks) n) (word_at mid p) mid)
unfolding put_in
put_is p n mid = refl

pub freed_zero : (image ws : List ℕ) (f : ℕ) → IsWhole 2112 image → f < block_count image → HasChain (free_links free_blocks) image 20 ws
    → IsAscending ws → AllByRecursion (λ v. v ≢ f + 1) ws
    → unchained (with_freed free_blocks (f + 1) image) ≡ with_block f (zeros 192) (unchained image)
freed_zero image ws f size below chain up others =
    let l = free_links free_blocks in
    let n = f + 1 in
    let c = block_count image in
    let s : Split n ws = split n ws up others in
    let old : HasChain l image 20 (s.below ++ s.above) = subst (HasChain l image 20) (sym s.whole) chain in
    let p = place_behind l 20 s.below in
    let place : place_above l 20 n image ≡ p = above_behind l image 20 n s.below s.above are_free.links.step old s.less s.more in
    let mid = with_block f (zeros 192) image in
    let put : IsPut 2112 f (zeros 192) image mid c = put_block 2112 image (zeros 192) f c size zeros_len below in
    let count : block_count mid ≡ c = count_is 2112 mid c put.size in
    let whole_mid : IsWhole 2112 mid = omega (arith, put.size, count) in
    let kind : kind_of (block_in mid f) ≡ 0 = ap kind_of put.here ∙ zero_kind in
    let v = word_at mid p in
    let x = put_word (next_place l n) v mid in
    let back : f + 1 - 1 ≡ f = omega arith in
    let next : next_place l n ≡ block_place f + 4 = free_next n ∙ ap (λ (k : ℕ). block_place k + 4) back in
    let room : block_place f + 4 + 4 ≤ length mid = omega (arith, put.size, below) in
    let long : length x ≡ length mid = ap (λ (q : ℕ). length (put_word q v mid)) next ∙ word_len mid (block_place f + 4) v room in
    let whole_x : IsWhole 2112 x = omega (arith, long, whole_mid) in
    let count_x : block_count x ≡ c = omega (arith, long, count) in
    let beside : unchained x ≡ unchained mid =
    ap (λ (q : ℕ). unchained (put_word q v mid)) next ∙ free_beside mid f v whole_mid (omega (arith, below, count)) kind in
    let kind_x : (j : ℕ) → j < c → kind_of (block_in image j) ≡ 0 → kind_of (block_in x j) ≡ 0 =
    λ j less none.
    sym (unchained_kind x j whole_x (omega (arith, less, count_x))) ∙ ap (λ (i : List ℕ). kind_of (block_in i j)) beside
    ∙ unchained_kind mid j whole_mid (omega (arith, less, count))
    ∙ ⊎_elim (λ (same : j ≡ f). ap (λ (i : ℕ). kind_of (block_in mid i)) same ∙ kind)
    (λ (other : j ≢ f). ap kind_of (put.others j less other) ∙ none) (cases_eq j f) in
    ap unchained (freed_is image f p place ∙ put_is p n mid)
    ∙ put_behind x image n 20 s.below s.above old (head_beside x 20 n whole_x (inl refl))
    (λ w names.
    ap (λ (q : ℕ). unchained (put_word q n x)) (free_next w)
    ∙ free_beside x (w - 1) n whole_x (omega (arith, names.below, count_x)) (kind_x (w - 1) names.below names.kind))
    ∙ beside ∙ block_laid image (zeros 192) f size zeros_len below
    ∙ ap (λ (b : List ℕ). with_block f b (unchained image)) zeros_unlinked

-- ---- what is left

pub is_freed : (image ws : List ℕ) (f : ℕ) → IsWhole 2112 image → f < block_count image → HasChain (free_links free_blocks) image 20 ws
    → IsAscending ws → AllByRecursion (λ v. v ≢ f + 1) ws → IsFreed free_blocks ws (f + 1) image (with_freed free_blocks (f + 1) image)
is_freed image ws f size below chain up others =
    freed free_blocks image (block_count image) (f + 1) ws are_free size (omega arith) (omega arith) chain up others

-- a block that was not free is free and zero, all others keep their kinds, and those that are not free their bytes
pub record IsOneFreed (image new : List ℕ) (f : ℕ) : Type 0 where
  pub size : length new ≡ length image
  pub here : kind_of (block_in new f) ≡ 0
  pub kinds : (j : ℕ) → j < block_count image → j ≢ f → kind_of (block_in new j) ≡ kind_of (block_in image j)
  pub others : (j : ℕ) → j < block_count image → j ≢ f → kind_of (block_in image j) ≢ 0 → block_in new j ≡ block_in image j
  pub words : (p : ℕ) → 64 ≤ p → p + 4 ≤ 2112 → word_at new p ≡ word_at image p
  pub free : HasFree new

among_has : (ws : List ℕ) (n v : ℕ) → Split n ws → Contains ws v ⊎ (v ≡ n) → Contains (put_among n ws) v
among_has ws n v s is =
    subst (λ (l : List ℕ). Contains l v) s.put
    (⊎_elim
    (λ (old : Contains ws v).
    elim (Contains-append_cases s.below s.above v (subst (λ (l : List ℕ). Contains l v) (sym s.whole) old)) [
      | inl low ↦ Contains-append_left s.below (n ∷ s.above) v low
      | inr high ↦ Contains-append_right s.below (n ∷ s.above) v (suc high.0, omega (arith, high.1), high.2)
    ])
    (λ (new : v ≡ n). Contains-append_right s.below (n ∷ s.above) v (0, omega arith, sym new))
    is)

pub one_freed : (image : List ℕ) (f : ℕ) → IsWhole 2112 image → f < block_count image → (free : HasFree image)
    → kind_of (block_in image f) ≢ 0 → AllByRecursion (λ v. v ≢ f + 1) free.words
    → IsOneFreed image (with_freed free_blocks (f + 1) image) f
one_freed image f size below free used others =
    let c = block_count image in
    let u = unchained image in
    let ws = free.words in
    let new = with_freed free_blocks (f + 1) image in
    let is : IsFreed free_blocks ws (f + 1) image new = is_freed image ws f size below free.chain free.ascending others in
    let zero_there = freed_zero image ws f size below free.chain free.ascending others in
    let count : block_count new ≡ c = omega (arith, is.size) in
    let whole_new : IsWhole 2112 new = omega (arith, is.size, size) in
    let put : IsPut 2112 f (zeros 192) u (with_block f (zeros 192) u) c = put_block 2112 u (zeros 192) f c (unchained_len image size) zeros_len below in
    let plain : (j : ℕ) → j < c → kind_of (block_in new j) ≡ kind_of (block_in (with_block f (zeros 192) u) j) =
    λ j less. sym (unchained_kind new j whole_new (omega (arith, less, count))) ∙ ap (λ (i : List ℕ). kind_of (block_in i j)) zero_there in
    let kinds : (j : ℕ) → j < c → j ≢ f → kind_of (block_in new j) ≡ kind_of (block_in image j) =
    λ j less other.
    plain j less ∙ ap kind_of (put.others j (omega (arith, less, unchained_len image size)) other) ∙ unchained_kind image j size less in
    let here : kind_of (block_in new f) ≡ 0 = plain f below ∙ ap kind_of put.here ∙ zero_kind in
    let back : f + 1 - 1 ≡ f = omega arith in
    let s : Split (f + 1) ws = split (f + 1) ws free.ascending others in
    record {
      size = is.size;
      here = here;
      kinds = kinds;
      others = λ j less other some.
          sym (same_block new j)
          ∙ is.others j less (λ same. other (same ∙ back))
          (λ none.
          let place : block_place j + 0 ≡ block_place j = omega arith in
          some (word_in image j 0 (omega arith) ∙ ap (word_at image) place ∙ none))
          ∙ same_block image j;
      words = λ p from to. is.words p to (inr (omega arith));
      free = record {
        words = put_among (f + 1) ws;
        chain = is.free;
        ascending = is.ascending;
        each = λ j less none.
            among_has ws (f + 1) (j + 1) s
            (⊎_elim (λ (same : j ≡ f). inr (ap (λ (i : ℕ). i + 1) same))
            (λ (other : j ≢ f).
            inl (free.each j (omega (arith, less, count)) (sym (kinds j (omega (arith, less, count)) other) ∙ none)))
            (cases_eq j f));
      };
    }

pub keeps_freed : (image new : List ℕ) (f : ℕ) → IsWhole 2112 image → kind_of (block_in image f) ≢ 1 → IsOneFreed image new f
    → KeepsEntries image new
keeps_freed image new f size other is =
    let c = block_count image in
    let count : block_count new ≡ c = omega (arith, is.size) in
    let apart : (k : ℕ) → kind_of (block_in image k) ≡ 1 → k ≢ f =
    λ k one same. other (ap (λ (j : ℕ). kind_of (block_in image j)) (sym same) ∙ one) in
    let same : (k : ℕ) → k < c → kind_of (block_in image k) ≡ 1 → block_in new k ≡ block_in image k =
    λ k below one. is.others k below (apart k one) (λ none. omega (arith, one, none)) in
    record {
      size = omega (arith, is.size, size);
      longer = omega (arith, count);
      head = is.words;
      back = λ k below one.
          ⊎_elim
          (λ (here : k ≡ f). absurd (omega (arith, one, is.here, ap (λ (j : ℕ). kind_of (block_in new j)) here)))
          (λ (differs : k ≢ f). (omega (arith, below, count), sym (is.kinds k (omega (arith, below, count)) differs) ∙ one))
          (cases_eq k f);
      kind = λ k below one. ap kind_of (same k below one) ∙ one;
      entry = λ k below one. ap entry_in (same k below one);
      words = λ k offset below one from to. ap (λ (b : List ℕ). word_at b offset) (same k below one);
    }
