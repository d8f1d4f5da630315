-- The entries that are named after another one, in the order of their blocks: which they are.
use Rattle.std.proofs.Common.{◌≡◌, ℕ, ℤ, zero, suc, ◌<◌, Bool, true, false, ◌||◌, cond, List, [], ◌∷◌, ◌++◌, length, Option, Some, None, refl, sym, ap, subst, ◌∙◌, ⊎_elim, arith}
use Rattle.std.specs.List.{AllByRecursion, list_any}
use Rattle.std.specs.Ordering.{int_eq}
use Rattle.std.proofs.lemmas.Bool.{cases_eq, or_cases}
use Rattle.std.proofs.lemmas.List.Folds.{list_any-append}
use Rattle.db_blocks.specs.Blocks.{kind_of}
use Rattle.prdb_layout.specs.Blocks.{block_count}
use Rattle.prdb_layout.specs.Records.{block_in, entry_in}
use Rattle.prdb_layout.specs.Registry.{Registry}
use Rattle.prdb_layout.specs.State.{PrEntry}
use Rattle.prdb_lists.specs.Members.{Members}
use Rattle.entry_scans.specs.Sought.{is_sought}
use Rattle.entry_scans.proofs.Told.{sought_from, sought_parts}
use Rattle.prdb_finds.specs.Records.{Holds}
use Rattle.prdb_finds.proofs.Told.{told_only, told_there, whole_same}
use Rattle.pt_service.specs.Turning.{is_fixed}
use Rattle.prdb_turns.specs.Fronts.{id_if, ids_before, ids_by_block}
use Rattle.prdb_turns.specs.Turning.{is_under as is_named_under}
use Rattle.pt_looks.proofs.Pairs.{is_there}
use Rattle.pt_changes.proofs.Owned.{not_empty as some_bytes}
use Rattle.pt_turns.specs.Under.{is_one_under, is_under}
use Rattle.pt_turns.proofs.Fronts.{both_ways}
use Rattle.pt_turns.proofs.Named.{id_of, to_id}

-- ---- of so many blocks

all_both : (P : ℤ → Type 0) (xs ys : List ℤ) → AllByRecursion P xs → AllByRecursion P ys → AllByRecursion P (xs ++ ys)
all_both P [] ys all more = more
all_both P (x ∷ xs) ys all more = (all.0, all_both P xs ys all.1 more)

all_if : (P : ℤ → Type 0) (test : PrEntry → Bool) (block : List ℕ) (b : Bool) → is_sought test block ≡ b
    → (is_sought test block ≡ true → P (entry_in block).id) → AllByRecursion P (id_if test block)
all_if P test block true is each =
    subst (λ (t : Bool). AllByRecursion P (cond t ((entry_in block).id ∷ []) [])) (sym is) (each is, tt)
all_if P test block false is each = subst (λ (t : Bool). AllByRecursion P (cond t ((entry_in block).id ∷ []) [])) (sym is) tt

all_before : (P : ℤ → Type 0) (test : PrEntry → Bool) (image : List ℕ) (count : ℕ)
    → ((k : ℕ) → k < count → is_sought test (block_in image k) ≡ true → P (entry_in (block_in image k)).id)
    → AllByRecursion P (ids_before test count image)
all_before P test image zero each = tt
all_before P test image (suc count) each =
    all_both P (ids_before test count image) (id_if test (block_in image count))
    (all_before P test image count (λ k below met. each k (omega (arith, below)) met))
    (all_if P test (block_in image count) (is_sought test (block_in image count)) refl (each count (omega arith)))

or_first : (a b : Bool) → a ≡ true → (a || b) ≡ true
or_first true b is = refl
or_first false b is = absurd cc

or_second : (a b : Bool) → b ≡ true → (a || b) ≡ true
or_second true b is = refl
or_second false b is = is

in_if : (test : PrEntry → Bool) (block : List ℕ) (z : ℤ) → is_sought test block ≡ true → (entry_in block).id ≡ z
    → list_any (int_eq z) (id_if test block) ≡ true
in_if test block z met own =
    ap (λ (t : Bool). list_any (int_eq z) (cond t ((entry_in block).id ∷ []) [])) met
    ∙ or_first (int_eq z (entry_in block).id) false (to_id z (entry_in block).id (sym own))

in_before : (test : PrEntry → Bool) (image : List ℕ) (z : ℤ) (k count : ℕ) → k < count → is_sought test (block_in image k) ≡ true
    → (entry_in (block_in image k)).id ≡ z → list_any (int_eq z) (ids_before test count image) ≡ true
in_before test image z k zero below met own = absurd (omega (arith, below))
in_before test image z k (suc count) below met own =
    let front = ids_before test count image in
    let last = id_if test (block_in image count) in
    list_any-append (int_eq z) front last
    ∙ ⊎_elim
    (λ (same : k ≡ count).
    or_second (list_any (int_eq z) front) (list_any (int_eq z) last)
    (in_if test (block_in image count) z (ap (λ (j : ℕ). is_sought test (block_in image j)) (sym same) ∙ met)
    (ap (λ (j : ℕ). (entry_in (block_in image j)).id) (sym same) ∙ own)))
    (λ (other : k ≡ count → ⊥).
    or_first (list_any (int_eq z) front) (list_any (int_eq z) last) (in_before test image z k count (omega (arith, below, other)) met own))
    (cases_eq k count)

-- ---- of all blocks

abbrev pub AreUnder : Registry → (whole : List ℕ) → List ℤ → Type 0
AreUnder r whole those = AllByRecursion (λ id. is_one_under whole (r.entry id) ≡ true) those

under_at : (image : List ℕ) (r : Registry) (m : Members) (whole : List ℕ) (k : ℕ) → 0 < length image → Holds image r m
    → k < block_count image → is_sought (is_named_under whole) (block_in image k) ≡ true
    → is_one_under whole (r.entry (entry_in (block_in image k)).id) ≡ true
under_at image r m whole k some h below met =
    let p = sought_parts (is_named_under whole) (block_in image k) met in
    let there = subst (λ (i : List ℕ). k < block_count i → kind_of (block_in i k) ≡ 1
    → r.entry (entry_in (block_in i k)).id ≡ Some (entry_in (block_in i k))) (whole_same image some) (told_there image r m k h) in
    ap (is_one_under whole) (there below p.0) ∙ p.1

pub groups_under : (image : List ℕ) (r : Registry) (m : Members) (whole : List ℕ) → 0 < length image → Holds image r m
    → AreUnder r whole (ids_by_block (is_named_under whole) image)
groups_under image r m whole some h =
    all_before (λ id. is_one_under whole (r.entry id) ≡ true) (is_named_under whole) image (block_count image)
    (λ k below met. under_at image r m whole k some h below met)

one_at : (whole : List ℕ) (o : Option PrEntry) → is_one_under whole o ≡ true → (f : PrEntry) × (o ≡ Some f)
    × (is_under whole f.name ≡ true)
one_at whole None is = absurd cc
one_at whole (Some f) is = (f, refl, is)

in_groups : (image : List ℕ) (r : Registry) (m : Members) (whole : List ℕ) (z : ℤ) → 0 < length image → Holds image r m
    → is_one_under whole (r.entry z) ≡ true → list_any (int_eq z) (ids_by_block (is_named_under whole) image) ≡ true
in_groups image r m whole z some h is =
    let f = one_at whole (r.entry z) is in
    let b = subst (λ (i : List ℕ). (k : ℕ) × (k < block_count i) × (kind_of (block_in i k) ≡ 1) × (entry_in (block_in i k) ≡ f.0))
    (whole_same image some) (told_only image r m z f.0 h f.1) in
    in_before (is_named_under whole) image z b.0 (block_count image) b.1
    (sought_from (is_named_under whole) (block_in image b.0) b.2 (ap (is_named_under whole) b.3 ∙ f.2))
    (ap (λ (x : PrEntry). x.id) b.3 ∙ h.pairs.holds.valid.ids z f.0 f.1)

met_in : (P : ℤ → Type 0) (z : ℤ) (xs : List ℤ) → AllByRecursion P xs → list_any (int_eq z) xs ≡ true → (x : ℤ) × (int_eq z x ≡ true) × P x
met_in P z [] all is = absurd cc
met_in P z (x ∷ xs) all is =
    ⊎_elim (λ (one : int_eq z x ≡ true). (x, one, all.0)) (λ (rest : list_any (int_eq z) xs ≡ true). met_in P z xs all.1 rest)
    (or_cases (int_eq z x) (list_any (int_eq z) xs) is)

-- an id is among them where its entry is named so
pub groups_are : (image : List ℕ) (r : Registry) (m : Members) (whole : List ℕ) (z : ℤ) → 0 < length image → Holds image r m
    → list_any (int_eq z) (ids_by_block (is_named_under whole) image) ≡ is_one_under whole (r.entry z)
groups_are image r m whole z some h =
    let those = ids_by_block (is_named_under whole) image in
    both_ways (list_any (int_eq z) those) (is_one_under whole (r.entry z))
    (λ has.
    let x = met_in (λ id. is_one_under whole (r.entry id) ≡ true) z those (groups_under image r m whole some h) has in
    ap (λ (y : ℤ). is_one_under whole (r.entry y)) (id_of z x.0 x.1) ∙ x.2)
    (λ is. in_groups image r m whole z some h is)

-- ---- the empty image holds fixed entries alone

pub not_empty : (image : List ℕ) (r : Registry) (m : Members) (e : PrEntry) → Holds image r m → r.entry e.id ≡ Some e
    → is_fixed e.id ≡ false → 0 < length image
not_empty image r m e h at free = some_bytes image r m e.id h (is_there (r.entry e.id) e at) free
