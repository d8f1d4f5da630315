-- What a pass reads of the blocks of an image it reads of those without the words of chains.
use Rattle.std.proofs.Common.{◌≡◌, ℕ, zero, suc, ◌<◌, ◌≤◌, Bool, true, false, ◌&&◌, eqb, ltb, cond, List, [], ◌∷◌, length, map, take, refl, sym, ap, subst, ◌∙◌, inl, inr, arith}
use mathlib.Core.Path.{fun_ext}
use Rattle.std.specs.Int.{w32, cast_signed}
use Rattle.std.specs.List.{AllByRecursion}
use Rattle.std.proofs.lemmas.Bool.{cases_Bool, eqb-true, ltb-false, ltb-true}
use Rattle.std.proofs.lemmas.List.{drop_all}
use Rattle.db_blocks.specs.Ascending.{ascending, first_blocks, numbers_met, put_by}
use Rattle.db_blocks.specs.Blocks.{IsWhole, block_in as any_block, word_at, kind_of, blanked}
use Rattle.db_blocks.proofs.Ascending.{all_put, all_take}
use Rattle.db_chains.proofs.Bytes.{word_stays, blanked_stays}
use Rattle.prdb_layout.specs.Blocks.{block_count}
use Rattle.prdb_layout.specs.Records.{block_in, block_place, entry_in}
use Rattle.prdb_layout.specs.State.{PrEntry}
use Rattle.prdb_layout.proofs.BlockPlaces.{block_len}
use Rattle.entry_scans.specs.Pages.{IsOfEntry, rank_in, rank_of}
use Rattle.entry_scans.specs.Sought.{is_sought}
use Rattle.entry_scans.proofs.Told.{sought_parts}
use Rattle.prdb_finds.specs.Unchained.{unchained, unlinked}
use Rattle.prdb_finds.proofs.Lookups.{same_block}
use Rattle.prdb_finds.proofs.Without.{unchained_block, unchained_count, unchained_entry, unchained_kind, unchained_len}

-- ---- a block

no_block : (image : List ℕ) (k : ℕ) → IsWhole 2112 image → block_count image ≤ k → block_in image k ≡ []
unfolding any_block
no_block image k size behind = ap (take 192) (drop_all (block_place k) image (omega (arith, size)))

choice_id : (b c : Bool) (x y z : List ℕ) (n : ℕ) → word_at x 8 ≡ n → word_at y 8 ≡ n → word_at z 8 ≡ n
    → word_at (cond b x (cond c y z)) 8 ≡ n
choice_id true c x y z n in_x in_y in_z = in_x
choice_id false true x y z n in_x in_y in_z = in_y
choice_id false false x y z n in_x in_y in_z = in_z

unlinked_id : (block : List ℕ) → length block ≡ 192 → word_at (unlinked block) 8 ≡ word_at block 8
unfolding unlinked
unlinked_id block size =
    choice_id (eqb (kind_of block) 1) (eqb (kind_of block) 0) (blanked 96 16 block) (blanked 4 4 block) block (word_at block 8)
    (word_stays 96 16 8 block (blanked 96 16 block) (blanked_stays 96 16 block (omega arith)) (omega arith) (inl (omega arith)))
    (word_stays 4 4 8 block (blanked 4 4 block) (blanked_stays 4 4 block (omega arith)) (omega arith) (inr (omega arith)))
    refl

whole_without : (image : List ℕ) → IsWhole 2112 image → IsWhole 2112 (unchained image)
whole_without image size = omega (arith, unchained_len image size)

-- what holds within the image and of no block holds of each number
each_number : {X : Type 0} (f : List ℕ → X) (image : List ℕ) (k : ℕ) → IsWhole 2112 image
    → (k < block_count image → f (block_in (unchained image) k) ≡ f (block_in image k))
    → f (any_block 2112 (unchained image) k) ≡ f (any_block 2112 image k)
each_number f image k size here =
    let un = unchained image in
    ap f (same_block un k)
    ∙ elim (cases_Bool (ltb k (block_count image))) [
      | inl below ↦ here (ltb-true k (block_count image) below)
      | inr not ↦
          let behind = ltb-false k (block_count image) not in
          ap f (no_block un k (whole_without image size) (omega (arith, behind, unchained_count image size))
          ∙ sym (no_block image k size behind))
    ]
    ∙ ap f (sym (same_block image k))

rank_same : (image : List ℕ) (k : ℕ) → IsWhole 2112 image → k < block_count image
    → rank_in (block_in (unchained image) k) ≡ rank_in (block_in image k)
rank_same image k size below =
    ap rank_in (unchained_block image k size below)
    ∙ ap (λ (n : ℕ). rank_of (cast_signed w32 n))
    (unlinked_id (block_in image k) (block_len image k (block_count image) size below))

sought_by : (test : PrEntry → Bool) (a b : List ℕ) (is : Bool) → eqb (kind_of b) 1 ≡ is → kind_of a ≡ kind_of b
    → (kind_of b ≡ 1 → entry_in a ≡ entry_in b) → is_sought test a ≡ is_sought test b
sought_by test a b true is kind entry =
    ap (λ (n : ℕ). eqb n 1 && test (entry_in a)) kind
    ∙ ap (λ (e : PrEntry). eqb (kind_of b) 1 && test e) (entry (eqb-true (kind_of b) 1 is))
sought_by test a b false is kind entry =
    ap (λ (n : ℕ). eqb n 1 && test (entry_in a)) kind ∙ ap (λ (t : Bool). t && test (entry_in a)) is
    ∙ sym (ap (λ (t : Bool). t && test (entry_in b)) is)

sought_same : (test : PrEntry → Bool) (image : List ℕ) (k : ℕ) → IsWhole 2112 image → k < block_count image
    → is_sought test (block_in (unchained image) k) ≡ is_sought test (block_in image k)
sought_same test image k size below =
    sought_by test (block_in (unchained image) k) (block_in image k) (eqb (kind_of (block_in image k)) 1) refl
    (unchained_kind image k size below) (unchained_entry image k size below)

-- ---- the blocks that meet a test

pub numbers_same : (test : PrEntry → Bool) (image : List ℕ) → IsWhole 2112 image
    → numbers_met 2112 (is_sought test) rank_in (unchained image) ≡ numbers_met 2112 (is_sought test) rank_in image
numbers_same test image size =
    let un = unchained image in
    let met : (λ (k : ℕ). is_sought test (any_block 2112 un k)) ≡ (λ (k : ℕ). is_sought test (any_block 2112 image k)) =
    fun_ext (λ k. each_number (is_sought test) image k size (sought_same test image k size)) in
    let rank : (λ (k : ℕ). rank_in (any_block 2112 un k)) ≡ (λ (k : ℕ). rank_in (any_block 2112 image k)) =
    fun_ext (λ k. each_number rank_in image k size (rank_same image k size)) in
    ap (λ (t : ℕ → Bool). ascending t (λ k. rank_in (any_block 2112 un k)) (block_count un)) met
    ∙ ap (λ (key : ℕ → ℕ). ascending (λ k. is_sought test (any_block 2112 image k)) key (block_count un)) rank
    ∙ ap (ascending (λ k. is_sought test (any_block 2112 image k)) (λ k. rank_in (any_block 2112 image k))) (unchained_count image size)

-- the block of an entry that meets a test
abbrev pub IsMet : (PrEntry → Bool) → List ℕ → ℕ → Type 0
IsMet test image k = (k < block_count image) × (is_sought test (block_in image k) ≡ true)

all_if : (b : Bool) (P : ℕ → Type 0) (xs ys : List ℕ) → (b ≡ true → AllByRecursion P xs) → AllByRecursion P ys
    → AllByRecursion P (cond b xs ys)
all_if true P xs ys one other = one refl
all_if false P xs ys one other = other

all_ascend : (P : ℕ → Type 0) (test : ℕ → Bool) (key : ℕ → ℕ) (count : ℕ) → ((k : ℕ) → k < count → test k ≡ true → P k)
    → AllByRecursion P (ascending test key count)
all_ascend P test key zero each = tt
all_ascend P test key (suc n) each =
    let rest = all_ascend P test key n (λ k below. each k (omega arith)) in
    all_if (test n) P (put_by key n (ascending test key n)) (ascending test key n)
    (λ met. all_put P key n (ascending test key n) (each n (omega arith) met) rest) rest

pub all_met : (test : PrEntry → Bool) (image : List ℕ) (most : ℕ)
    → AllByRecursion (IsMet test image) (take most (numbers_met 2112 (is_sought test) rank_in image))
all_met test image most =
    all_take (IsMet test image) most (numbers_met 2112 (is_sought test) rank_in image)
    (all_ascend (IsMet test image) (λ k. is_sought test (any_block 2112 image k)) (λ k. rank_in (any_block 2112 image k))
    (block_count image)
    (λ k below met. (below, subst (λ (b : List ℕ). is_sought test b ≡ true) (same_block image k) met)))

pub of_entries : (test : PrEntry → Bool) (image : List ℕ) (ks : List ℕ) → AllByRecursion (IsMet test image) ks
    → AllByRecursion (IsOfEntry image) (map (any_block 2112 image) ks)
of_entries test image [] all = tt
of_entries test image (k ∷ ks) all =
    let same = same_block image k in
    let kind = (sought_parts test (block_in image k) all.0.1).0 in
    ((k, all.0.0, ap kind_of same ∙ kind, same), of_entries test image ks all.1)

same_entries : (test : PrEntry → Bool) (image : List ℕ) (ks : List ℕ) → IsWhole 2112 image → AllByRecursion (IsMet test image) ks
    → map entry_in (map (any_block 2112 (unchained image)) ks) ≡ map entry_in (map (any_block 2112 image) ks)
same_entries test image [] size all = refl
same_entries test image (k ∷ ks) size all =
    let kind = (sought_parts test (block_in image k) all.0.1).0 in
    let here : entry_in (any_block 2112 (unchained image) k) ≡ entry_in (any_block 2112 image k) =
    each_number entry_in image k size (λ below. unchained_entry image k size below kind) in
    ap (λ (e : PrEntry). e ∷ map entry_in (map (any_block 2112 (unchained image)) ks)) here
    ∙ ap (λ (es : List PrEntry). entry_in (any_block 2112 image k) ∷ es) (same_entries test image ks size all.1)

pub entries_same : (test : PrEntry → Bool) (image : List ℕ) (most : ℕ) → IsWhole 2112 image
    → map entry_in (first_blocks 2112 (is_sought test) rank_in most (unchained image))
    ≡ map entry_in (first_blocks 2112 (is_sought test) rank_in most image)
entries_same test image most size =
    ap (λ (ks : List ℕ). map entry_in (map (any_block 2112 (unchained image)) (take most ks))) (numbers_same test image size)
    ∙ same_entries test image (take most (numbers_met 2112 (is_sought test) rank_in image)) size (all_met test image most)
