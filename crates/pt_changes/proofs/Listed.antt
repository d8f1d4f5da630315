-- What is in the list of the ids that pass a test.
use Rattle.std.proofs.Common.{◌≡◌, ◌≢◌, ℕ, ℤ, pos, zero, suc, ◌+◌, ◌+ℤ◌, Bool, true, false, ◌||◌, cond, List, [], ◌∷◌, map, refl, ap, subst, ◌∙◌, arith}
use Rattle.std.specs.Prelude.{◌<ℤ◌, ◌≤ℤ◌, filter}
use Rattle.std.specs.List.{Contains, list_any}
use Rattle.std.specs.Ordering.{int_eq}
use Rattle.std.proofs.lemmas.Bool.Decides.{Decides-int_eq}
use Rattle.std.proofs.lemmas.Int.{ints}
use Rattle.std.proofs.lemmas.List.Elements.{All-contains, filter_passes}
use Rattle.prdb_layout.specs.Registry.{IsFixedId}
use Rattle.prdb_layout.specs.State.{PrEntry, fixed_entries}
use Rattle.prdb_layout.proofs.Changed.{by_id}
use Rattle.entry_scans.specs.Pages.{least_id}
use Rattle.pt_service.specs.State.{ids, numbers_from}
use Rattle.pt_service.specs.Turning.{is_fixed}
use Rattle.pt_looks.proofs.Ordered.{InRange, Rises}

-- ---- what is in a list

pub in_none : {X : Type 0} (x : X) → Contains [] x → ⊥
in_none x (k, below, is) = omega arith

pub in_first : {X : Type 0} (y x : X) (ys : List X) → y ≡ x → Contains (y ∷ ys) x
in_first y x ys same = (0, omega arith, same)

pub in_rest : {X : Type 0} (y x : X) (ys : List X) → Contains ys x → Contains (y ∷ ys) x
in_rest y x ys has = (suc has.0, omega (arith, has.1), has.2)

or_one : (a b : Bool) → a ≡ true → (a || b) ≡ true
or_one true b is = refl
or_one false b is = absurd cc

or_two : (a b : Bool) → b ≡ true → (a || b) ≡ true
or_two true b is = refl
or_two false b is = is

-- ---- what passes a test

has_cond : {X : Type 0} (b : Bool) (y x : X) (ys : List X) → Contains ys x → Contains (cond b (y ∷ ys) ys) x
has_cond true y x ys has = in_rest y x ys has
has_cond false y x ys has = has

first_cond : {X : Type 0} (b : Bool) (y x : X) (ys : List X) → b ≡ true → y ≡ x → Contains (cond b (y ∷ ys) ys) x
first_cond true y x ys is same = in_first y x ys same
first_cond false y x ys is same = absurd cc

pub filter_has : {X : Type 0} (p : X → Bool) (xs : List X) (x : X) → p x ≡ true → Contains xs x → Contains (filter p xs) x
filter_has p [] x is has = absurd (in_none x has)
filter_has p (y ∷ ys) x is (zero, below, same) = first_cond (p y) y x (filter p ys) (ap p same ∙ is) same
filter_has p (y ∷ ys) x is (suc k, below, same) = has_cond (p y) y x (filter p ys) (filter_has p ys x is (k, omega arith, same))

pub filter_meets : {X : Type 0} (p : X → Bool) (xs : List X) (x : X) → Contains (filter p xs) x → p x ≡ true
filter_meets p xs x has = All-contains (λ y. p y ≡ true) (filter p xs) x (filter_passes p xs) has

-- ---- all ids, ascending

up_one : (x y : ℤ) → x ≤ℤ y → x ≢ y → (x +ℤ pos 1) ≤ℤ y
up_one x y low other = grind (arith, ints)

none_here : (x y : ℤ) → x ≤ℤ y → y <ℤ (x +ℤ pos 0) → ⊥
none_here x y low high = omega (arith, ints)

suc_is : (n : ℕ) → suc n ≡ n + 1
suc_is n = omega arith

high_next : (x y : ℤ) (n : ℕ) → y <ℤ (x +ℤ pos (n + 1)) → y <ℤ ((x +ℤ pos 1) +ℤ pos n)
high_next x y n high = omega (arith, ints)

numbers_have : (n : ℕ) (first x : ℤ) → first ≤ℤ x → x <ℤ (first +ℤ pos n) → Contains (numbers_from first n) x
unfolding numbers_from
numbers_have zero first x low high = absurd (none_here first x low high)
numbers_have (suc n) first x low high =
    by_id first x (λ same. in_first first x (numbers_from (first +ℤ pos 1) n) same)
    (λ other. in_rest first x (numbers_from (first +ℤ pos 1) n)
    (numbers_have n (first +ℤ pos 1) x (up_one first x low other)
    (high_next first x n (subst (λ (k : ℕ). x <ℤ (first +ℤ pos k)) (suc_is n) high))))

pub ids_have : (x : ℤ) → InRange x → Contains ids x
unfolding ids
ids_have x range = numbers_have 4294967295 least_id x range.0 range.1

low_next : (low x : ℤ) → low ≤ℤ x → low ≤ℤ (x +ℤ pos 1)
low_next low x least = omega (arith, ints)

itself : (x : ℤ) → x ≤ℤ x
itself x = omega (arith, ints)

rises_cond : (b : Bool) (low x : ℤ) (xs : List ℤ) → low ≤ℤ x → Rises (x +ℤ pos 1) xs → Rises low xs → Rises low (cond b (x ∷ xs) xs)
rises_cond true low x xs least above all = (least, above)
rises_cond false low x xs least above all = all

rises_filter : (p : ℤ → Bool) (n : ℕ) (low first : ℤ) → low ≤ℤ first → Rises low (filter p (numbers_from first n))
unfolding numbers_from
rises_filter p zero low first least = tt
rises_filter p (suc n) low first least =
    rises_cond (p first) low first (filter p (numbers_from (first +ℤ pos 1) n)) least
    (rises_filter p n (first +ℤ pos 1) (first +ℤ pos 1) (itself (first +ℤ pos 1)))
    (rises_filter p n low (first +ℤ pos 1) (low_next low first least))

-- those that pass a test rise
pub ids_rise : (p : ℤ → Bool) → Rises least_id (filter p ids)
unfolding ids
ids_rise p = rises_filter p 4294967295 least_id least_id (itself least_id)

over_one : (low x y : ℤ) → (x +ℤ pos 1) ≤ℤ y → low ≤ℤ x → low ≤ℤ y
over_one low x y up least = omega (arith, ints)

-- what is in a list that rises is not below its least
pub rises_above : (xs : List ℤ) (low x : ℤ) → Rises low xs → Contains xs x → low ≤ℤ x
rises_above [] low x rises has = absurd (in_none x has)
rises_above (y ∷ ys) low x rises (zero, below, same) = subst (λ (z : ℤ). low ≤ℤ z) same rises.0
rises_above (y ∷ ys) low x rises (suc k, below, same) =
    over_one low y x (rises_above ys (y +ℤ pos 1) x rises.1 (k, omega arith, same)) rises.0

-- ---- fixed ids

any_of_ids : (es : List PrEntry) (id : ℤ) → Contains (map (λ (e : PrEntry). e.id) es) id
    → list_any (λ (e : PrEntry). int_eq e.id id) es ≡ true
any_of_ids [] id has = absurd (in_none id has)
any_of_ids (e ∷ es) id (zero, below, same) = or_one (int_eq e.id id) (list_any (λ (e : PrEntry). int_eq e.id id) es)
    ((Decides-int_eq e.id id).1 same)
any_of_ids (e ∷ es) id (suc k, below, same) =
    or_two (int_eq e.id id) (list_any (λ (e : PrEntry). int_eq e.id id) es) (any_of_ids es id (k, omega arith, same))

true_false : (b : Bool) → b ≡ true → b ≡ false → ⊥
true_false b is not = cc

pub no_fixed : (id : ℤ) → is_fixed id ≡ false → IsFixedId id → ⊥
no_fixed id not has = true_false (is_fixed id) (any_of_ids fixed_entries id has) not
