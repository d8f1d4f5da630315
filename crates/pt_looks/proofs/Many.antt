-- An image holds no more entries than it has blocks, so no list of ids is longer than an answer.
use Rattle.std.proofs.Common.{◌≡◌, ◌≢◌, ℕ, ℤ, pos, suc, ◌+◌, ◌<◌, ◌≤◌, ◌+ℤ◌, Bool, true, false, ◌||◌, eqb, List, [], ◌∷◌, length, map, Option, Some, None, IsSome, IfSome, Result, Ok, Err, IfErr, refl, sym, ap, subst, ◌∙◌, ⊎_elim, arith}
use Rattle.std.specs.Prelude.{◌<ℤ◌, ◌≤ℤ◌}
use Rattle.std.specs.List.{AllByRecursion, Contains, IsDistinct, list_any}
use Rattle.std.specs.Ordering.{int_eq}
use Rattle.std.proofs.lemmas.Bool.{and_from, cases_lt, eq-eqb, eqb-true}
use Rattle.std.proofs.lemmas.Bool.Decides.{Decides-int_eq}
use Rattle.std.proofs.lemmas.Int.{ints}
use Rattle.std.proofs.lemmas.List.{length-map}
use Rattle.std.proofs.lemmas.Map.Steps.{length-le_from_distinct_below}
use Rattle.db_blocks.proofs.Maps.{test_other}
use Rattle.db_image.specs.declared.faults.RecordFault.{RecordFault}
use Rattle.db_image.specs.declared.faults.RecordFault.TheVariants.{DiskFault, BadRecord, NoMemory}
use Rattle.db_blocks.specs.Blocks.{kind_of}
use Rattle.db_blocks.proofs.FirstBlocks.{first_met, first_not, first_within}
use Rattle.prdb_layout.specs.Blocks.{block_count}
use Rattle.prdb_layout.specs.Records.{IsLaidOut, block_in, entry_in, first_block, has_id}
use Rattle.prdb_layout.specs.Registry.{Registry, IsRegistry}
use Rattle.prdb_layout.specs.State.{PrEntry}
use Rattle.prdb_layout.proofs.Lookups.{id_parts}
use Rattle.entry_scans.specs.Lists.{IsAscending}
use Rattle.prdb_finds.specs.Ends.{HasItsCause}
use Rattle.prdb_finds.specs.Records.{whole}
use Rattle.prdb_finds.specs.Unchained.{unchained}
use Rattle.prdb_finds.proofs.FirstChains.{first_len}
use Rattle.prdb_finds.proofs.Told.{empty_is, laid_without, whole_same}
use Rattle.prdb_finds.proofs.Without.{unchained_count}
use Rattle.pt_service.specs.State.{State}
use Rattle.pt_looks.specs.Ends.{IsTooMany}
use Rattle.pt_looks.specs.States.{HoldsRecords, OfStates, members_of}
use Rattle.pt_looks.proofs.Ordered.{Rises, rises_all}
use Rattle.pt_looks.proofs.Pairs.{some_is}

-- ---- the number of an entry's block

abbrev number : List ℕ → ℤ → ℕ
number image x = first_block (has_id x) image

record IsNumber (image : List ℕ) (x : ℤ) : Type 0 where
  within : number image x < block_count image
  own : (entry_in (block_in image (number image x))).id ≡ x

has_of : (image : List ℕ) (x : ℤ) (k : ℕ) (e : PrEntry) → kind_of (block_in image k) ≡ 1 → entry_in (block_in image k) ≡ e → e.id ≡ x
    → has_id x (block_in image k) ≡ true
has_of image x k e kind is own =
    and_from (eqb (kind_of (block_in image k)) 1) (int_eq (entry_in (block_in image k)).id x) (eq-eqb (kind_of (block_in image k)) 1 kind)
    ((Decides-int_eq (entry_in (block_in image k)).id x).1 (ap (λ (f : PrEntry). f.id) is ∙ own))

both : (b : Bool) → b ≡ true → b ≡ false → ⊥
both true is fails = absurd cc
both false is fails = absurd cc

number_of : (image : List ℕ) (r : Registry) (x : ℤ) → IsLaidOut image r → IsRegistry r → IsSome (r.entry x) → IsNumber image x
number_of image r x laid valid there =
    let e = some_is (r.entry x) there in
    let at = laid.only x e.0 e.1 in
    let test = λ (k : ℕ). has_id x (block_in image k) in
    let has : test at.0 ≡ true = has_of image x at.0 e.0 at.2 at.3 (valid.ids x e.0 e.1) in
    let most : number image x ≤ 0 + block_count image = first_within test 0 (block_count image) in
    let below : number image x < 0 + block_count image = ⊎_elim
    (λ (less : number image x < 0 + block_count image). less)
    (λ (last : 0 + block_count image ≤ number image x).
    absurd (both (test at.0) has (first_not test 0 (block_count image) at.0 (omega arith) (omega (arith, at.1, last)))))
    (cases_lt (number image x) (0 + block_count image)) in
    let parts = id_parts x (block_in image (number image x)) (first_met test 0 (block_count image) below) in
    record { within = omega (arith, below); own = parts.1 }

-- ---- each has its own

differ : (image : List ℕ) (x y : ℤ) → IsNumber image x → IsNumber image y → x <ℤ y → number image x ≢ number image y
differ image x y one two less same =
    let ids : x ≡ y = sym one.own ∙ ap (λ (k : ℕ). (entry_in (block_in image k)).id) same ∙ two.own in
    omega (arith, ints, less, ids)

less_up : (x low y : ℤ) → x <ℤ low → low ≤ℤ y → x <ℤ y
less_up x low y less up = omega (arith, ints)

less_next : (x : ℤ) → x <ℤ (x +ℤ pos 1)
less_next x = omega (arith, ints)

less_on : (x y : ℤ) → x <ℤ y → x <ℤ (y +ℤ pos 1)
less_on x y less = omega (arith, ints)

apart : (image : List ℕ) (x low : ℤ) (ys : List ℤ) → IsNumber image x → x <ℤ low → Rises low ys → AllByRecursion (IsNumber image) ys
    → AllByRecursion (λ n. eqb (number image x) n ≡ false) (map (number image) ys)
apart image x low [] one less rises all = tt
apart image x low (y ∷ ys) one less rises all =
    let here = less_up x low y less rises.0 in (
      test_other (number image x) (number image y) (differ image x y one all.0 here),
      apart image x (y +ℤ pos 1) ys one (less_on x y here) rises.1 all.1,
    )

distinct : (image : List ℕ) (low : ℤ) (xs : List ℤ) → Rises low xs → AllByRecursion (IsNumber image) xs
    → IsDistinct eqb (map (number image) xs)
unfolding IsDistinct
distinct image low [] rises all = tt
distinct image low (x ∷ xs) rises all =
    (apart image x (x +ℤ pos 1) xs all.0 (less_next x) rises.1 all.1, distinct image (x +ℤ pos 1) xs rises.1 all.1)

within_by : (image : List ℕ) (q : ℕ) (x : ℤ) (rest b : Bool) → eqb q (number image x) ≡ b → (b || rest) ≡ true → IsNumber image x
    → (rest ≡ true → q < block_count image)
    → q < block_count image
within_by image q x rest true same is one later = let at = eqb-true q (number image x) same in omega (arith, at, one.within)
within_by image q x rest false same is one later = later is

within : (image : List ℕ) (xs : List ℤ) (q : ℕ) → AllByRecursion (IsNumber image) xs → list_any (eqb q) (map (number image) xs) ≡ true
    → q < block_count image
within image [] q all is = absurd cc
within image (x ∷ xs) q all is =
    within_by image q x (list_any (eqb q) (map (number image) xs)) (eqb q (number image x)) refl is all.0 (within image xs q all.1)

numbers_of : (image : List ℕ) (r : Registry) (xs : List ℤ) → IsLaidOut image r → IsRegistry r
    → AllByRecursion (λ x. IsSome (r.entry x)) xs → AllByRecursion (IsNumber image) xs
numbers_of image r [] laid valid all = tt
numbers_of image r (x ∷ xs) laid valid all = (number_of image r x laid valid all.0, numbers_of image r xs laid valid all.1)

all_there : (P : ℤ → Type 0) (xs : List ℤ) → ((x : ℤ) → Contains xs x → P x) → AllByRecursion P xs
all_there P [] each = tt
all_there P (x ∷ xs) each = (each x (0, omega arith, refl), all_there P xs (λ y c. each y (suc c.0, omega (arith, c.1), c.2)))

few_in : (image : List ℕ) (r : Registry) (xs : List ℤ) → IsLaidOut image r → IsRegistry r → IsAscending xs
    → ((x : ℤ) → Contains xs x → IsSome (r.entry x))
    → length xs ≤ block_count image
few_in image r xs laid valid ascending there =
    let all = numbers_of image r xs laid valid (all_there (λ x. IsSome (r.entry x)) xs there) in
    let low = rises_all xs ascending in
    let n : length (map (number image) xs) ≤ block_count image =
    length-le_from_distinct_below (map (number image) xs) (block_count image) (distinct image low.0 xs low.1 all)
    (λ q is. within image xs q all is) in
    omega (arith, n, length-map xs (number image))

-- ---- how many blocks there are

whole_len : (image : List ℕ) → length image ≤ 16777216 → length (whole image) ≤ 16777216
whole_len image most =
    ⊎_elim
    (λ (some : 0 < length image). omega (arith, most, ap length (whole_same image some)))
    (λ (none : length image ≤ 0). omega (arith, ap (λ (i : List ℕ). length (whole i)) (empty_is image (omega (arith, none))), first_len))
    (cases_lt 0 (length image))

pub few_ids : (image : List ℕ) (s : State) (xs : List ℤ) → HoldsRecords image s → length image ≤ 16777216 → IsAscending xs
    → ((x : ℤ) → Contains xs x → IsSome (s.registry.entry x)) → length xs ≤ 262143
few_ids image s xs holds most ascending there =
    let old = whole image in
    let few = few_in (unchained old) s.registry xs (laid_without image s.registry (members_of s) holds) holds.pairs.holds.valid ascending
    there in
    omega (arith, few, unchained_count old holds.size, holds.size, whole_len image most)

-- ---- so more of them are of no image

cause_many : (bytes : Option (List ℕ)) (fault : RecordFault) (n : ℕ) → IsTooMany n fault → OfStates bytes (λ s. n ≤ 262143)
    → HasItsCause bytes fault
cause_many bytes DiskFault n is few = tt
cause_many None (BadRecord at) n is few = tt
cause_many (Some image) (BadRecord at) n is few = λ h.
    let s : State = record { registry = h.0; is_in = h.1.has } in
    let most = few s h.2 in omega (arith, is, most)
cause_many bytes NoMemory n is few = tt

pub err_many : {X : Type 0} (r : Result X RecordFault) (bytes : Option (List ℕ)) (n : ℕ) → IfErr r (IsTooMany n)
    → OfStates bytes (λ s. n ≤ 262143) → IfErr r (HasItsCause bytes)
err_many (Ok x) bytes n is few = tt
err_many (Err fault) bytes n is few = cause_many bytes fault n is few

pub no_disk_fault : {X : Type 0} (r : Result X RecordFault) (n : ℕ) → IfErr r (IsTooMany n) → r ≡ Err DiskFault → ⊥
no_disk_fault {X} r n is fault = subst (λ (x : Result X RecordFault). IfErr x (IsTooMany n)) fault is

pub long_same : (bytes mid : Option (List ℕ)) (len : ℕ) → mid ≡ bytes → IfSome mid (λ image. length image ≡ len)
    → IfSome bytes (λ image. length image ≡ len)
long_same bytes mid len same long = subst (λ (b : Option (List ℕ)). IfSome b (λ image. length image ≡ len)) same long
