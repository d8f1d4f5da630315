-- The ascending list of the ids that pass a test is the list of all ids, as far as they pass it.
use Rattle.std.proofs.Common.{◌≡◌, ◌≢◌, ℕ, ℤ, pos, zero, suc, ◌+◌, ◌<◌, ◌+ℤ◌, Bool, true, false, cond, List, [], ◌∷◌, length, get_or, refl, sym, ap, subst, ◌∙◌, inl, inr, arith}
use Rattle.std.specs.Prelude.{◌<ℤ◌, ◌≤ℤ◌, ◌⊎◌, filter}
use Rattle.std.specs.List.{AllByRecursion, Contains}
use Rattle.std.proofs.lemmas.Int.{ints}
use Rattle.std.proofs.lemmas.List.{get_or_default}
use Rattle.entry_scans.specs.Lists.{IsAscending, IsListOf}
use Rattle.entry_scans.specs.Pages.{least_id}
use Rattle.pt_service.specs.State.{ids, numbers_from}

-- ---- ascending lists, one id after the other

-- each id is at least the one before it and 1, the first one at least this
abbrev pub Rises : ℤ → List ℤ → Type 0
Rises low [] = Unit {0}
Rises low (x ∷ xs) = (low ≤ℤ x) × Rises (x +ℤ pos 1) xs

next_up : (x y : ℤ) → x <ℤ y → (x +ℤ pos 1) ≤ℤ y
next_up x y less = omega (arith, ints)

rises_from : (xs : List ℤ) (low : ℤ) → IsAscending xs → ((j : ℕ) (d : ℤ) → j < length xs → low ≤ℤ get_or xs j d) → Rises low xs
rises_from [] low is above = tt
rises_from (x ∷ xs) low is above = (
  above 0 x (omega arith),
  rises_from xs (x +ℤ pos 1) (λ i j d less below. is (suc i) (suc j) d (omega arith) (omega arith))
      (λ j d below. next_up x (get_or xs j d) (is 0 (suc j) d (omega arith) (omega arith))),
)

itself : (x : ℤ) → x ≤ℤ x
itself x = omega (arith, ints)

more_than : (x y : ℤ) → x <ℤ y → x ≤ℤ y
more_than x y less = omega (arith, ints)

from_first : (x : ℤ) (xs : List ℤ) → IsAscending (x ∷ xs) → (j : ℕ) (d : ℤ) → j < length (x ∷ xs) → x ≤ℤ get_or (x ∷ xs) j d
from_first x xs is zero d below = itself x
from_first x xs is (suc j) d below = more_than x (get_or xs j d) (is 0 (suc j) d (omega arith) below)

first_low : (xs : List ℤ) → IsAscending xs → (low : ℤ) × ((j : ℕ) (d : ℤ) → j < length xs → low ≤ℤ get_or xs j d)
first_low [] is = (pos 0, λ j d below. absurd (omega arith))
first_low (x ∷ xs) is = (x, λ j d below. from_first x xs is j d below)

pub rises_all : (xs : List ℤ) → IsAscending xs → (low : ℤ) × Rises low xs
rises_all xs is = let low = first_low xs is in (low.0, rises_from xs low.0 is low.1)

abbrev IsIn : List ℤ → ℤ → Type 0
IsIn [] x = ⊥
IsIn (y ∷ ys) x = (y ≡ x) ⊎ IsIn ys x

in_at : (xs : List ℤ) (k : ℕ) (x : ℤ) → k < length xs → get_or xs k x ≡ x → IsIn xs x
in_at [] k x below is = absurd (omega arith)
in_at (y ∷ ys) zero x below is = inl is
in_at (y ∷ ys) (suc k) x below is = inr (in_at ys k x (omega arith) is)

in_from : (xs : List ℤ) (x : ℤ) → Contains xs x → IsIn xs x
in_from xs x c = in_at xs c.0 x c.1 c.2

low_on : (low x y : ℤ) → low ≤ℤ x → (x +ℤ pos 1) ≤ℤ y → low ≤ℤ y
low_on low x y first next = omega (arith, ints)

-- what is in it is not below its least
in_above : (xs : List ℤ) (low x : ℤ) → Rises low xs → IsIn xs x → low ≤ℤ x
in_above [] low x rises is = absurd is
in_above (y ∷ ys) low x rises (inl same) = subst (λ (z : ℤ). low ≤ℤ z) same rises.0
in_above (y ∷ ys) low x rises (inr is) = low_on low y x rises.0 (in_above ys (y +ℤ pos 1) x rises.1 is)

-- ---- the numbers that pass

numbers_next : (p : ℤ → Bool) (first : ℤ) (n : ℕ) (b : Bool) → p first ≡ b
    → filter p (numbers_from first (suc n)) ≡ cond b (first ∷ filter p (numbers_from (first +ℤ pos 1) n))
    (filter p (numbers_from (first +ℤ pos 1) n))
unfolding numbers_from
numbers_next p first n b is =
    ap (λ (t : Bool). cond t (first ∷ filter p (numbers_from (first +ℤ pos 1) n)) (filter p (numbers_from (first +ℤ pos 1) n))) is

-- the ids of a list from one on are below another one
abbrev AreBelow : ℤ → List ℤ → Type 0
AreBelow end xs = AllByRecursion (λ x. x <ℤ end) xs

-- they pass, and each that passes is in the list
record IsPassing (p : ℤ → Bool) (first end : ℤ) (xs : List ℤ) : Type 0 where
  rises : Rises first xs
  below : AreBelow end xs
  pass : AllByRecursion (λ x. p x ≡ true) xs
  all : (x : ℤ) → first ≤ℤ x → p x ≡ true → IsIn xs x

not_above : (x y : ℤ) → x ≡ y → (x +ℤ pos 1) ≤ℤ y → ⊥
not_above x y same up = omega (arith, ints)

first_on : (x y : ℤ) → (x +ℤ pos 1) ≤ℤ y → x ≤ℤ y
first_on x y up = omega (arith, ints)

other_up : (x y : ℤ) → x ≤ℤ y → x ≢ y → (x +ℤ pos 1) ≤ℤ y
other_up x y least other = grind (arith, ints)

both : (b : Bool) → b ≡ true → b ≡ false → ⊥
both true is not = absurd cc
both false is not = absurd cc

under_self : (x y : ℤ) → x ≤ℤ y → (y +ℤ pos 1) ≤ℤ x → ⊥
under_self x y least up = omega (arith, ints)

-- the first number passes, and is the first of the list
passing_tail : (p : ℤ → Bool) (first end x : ℤ) (xs : List ℤ) → first ≡ x → IsPassing p first end (x ∷ xs)
    → IsPassing p (first +ℤ pos 1) end xs
passing_tail p first end x xs same is = record {
  rises = subst (λ (z : ℤ). Rises (z +ℤ pos 1) xs) (sym same) is.rises.1;
  below = is.below.1;
  pass = is.pass.1;
  all = λ y up met. elim (is.all y (first_on first y up) met) [
    | inl one ↦ absurd (not_above first y (same ∙ one) up)
    | inr rest ↦ rest
  ];
}

first_same : (p : ℤ → Bool) (first end x : ℤ) (xs : List ℤ) → p first ≡ true → IsPassing p first end (x ∷ xs) → first ≡ x
first_same p first end x xs met is = elim (is.all first (itself first) met) [
  | inl one ↦ sym one
  | inr rest ↦ absurd (under_self first x is.rises.0 (in_above xs (x +ℤ pos 1) first is.rises.1 rest))
]

-- it does not pass
passing_rest : (p : ℤ → Bool) (first end : ℤ) (xs : List ℤ) → p first ≡ false → IsPassing p first end xs
    → IsPassing p (first +ℤ pos 1) end xs
passing_rest p first end [] fails is = record { rises = tt; below = tt; pass = tt; all = λ y up met. is.all y (first_on first y up) met }
passing_rest p first end (x ∷ xs) fails is = record {
  rises = (other_up first x is.rises.0 (λ same. both (p first) (ap p same ∙ is.pass.0) fails), is.rises.1);
  below = is.below;
  pass = is.pass;
  all = λ y up met. is.all y (first_on first y up) met;
}

none_below : (x end : ℤ) → end ≤ℤ x → x <ℤ end → ⊥
none_below x end high low = omega (arith, ints)

le_on : (x y z : ℤ) → x ≤ℤ y → y ≤ℤ z → x ≤ℤ z
le_on x y z first next = omega (arith, ints)

suc_is : (n : ℕ) → suc n ≡ n + 1
suc_is n = omega arith

end_next : (first end : ℤ) (n : ℕ) → end ≡ first +ℤ pos (n + 1) → end ≡ (first +ℤ pos 1) +ℤ pos n
end_next first end n is = omega (arith, ints)

end_now : (first end : ℤ) → end ≡ first +ℤ pos 0 → end ≤ℤ first
end_now first end is = omega (arith, ints)

-- by whether the first number passes
list_by : (p : ℤ → Bool) (n : ℕ) (first end : ℤ) (xs : List ℤ) (b : Bool) → p first ≡ b → IsPassing p first end xs
    → ((ys : List ℤ) → IsPassing p (first +ℤ pos 1) end ys → ys ≡ filter p (numbers_from (first +ℤ pos 1) n))
    → xs ≡ filter p (numbers_from first (suc n))
list_by p n first end [] true met is later = absurd (is.all first (itself first) met)
list_by p n first end (x ∷ xs) true met is later =
    let same = first_same p first end x xs met is in
    ap (λ (z : ℤ). z ∷ xs) (sym same) ∙ ap (λ (zs : List ℤ). first ∷ zs) (later xs (passing_tail p first end x xs same is))
    ∙ sym (numbers_next p first n true met)
list_by p n first end xs false met is later = later xs (passing_rest p first end xs met is) ∙ sym (numbers_next p first n false met)

no_numbers : (p : ℤ → Bool) (first : ℤ) → [] ≡ filter p (numbers_from first zero)
unfolding numbers_from
no_numbers p first = refl

list_from : (p : ℤ → Bool) (n : ℕ) (first end : ℤ) (xs : List ℤ) → end ≡ first +ℤ pos n → IsPassing p first end xs
    → xs ≡ filter p (numbers_from first n)
list_from p zero first end [] at is = no_numbers p first
list_from p zero first end (x ∷ xs) at is = absurd (none_below x end (le_on end first x (end_now first end at) is.rises.0) is.below.0)
list_from p (suc n) first end xs at is =
    list_by p n first end xs (p first) refl is
    (λ ys so. list_from p n (first +ℤ pos 1) end ys (end_next first end n (at ∙ ap (λ (k : ℕ). first +ℤ pos k) (suc_is n))) so)

-- ---- all ids

-- an id, or 0
abbrev pub InRange : ℤ → Type 0
InRange x = (least_id ≤ℤ x) × (x <ℤ pos 2147483648)

all_at : (P : ℤ → Type 0) (xs : List ℤ) → ((x : ℤ) → IsIn xs x → P x) → AllByRecursion P xs
all_at P [] each = tt
all_at P (x ∷ xs) each = (each x (inl refl), all_at P xs (λ y is. each y (inr is)))

contains_in : (xs : List ℤ) (x : ℤ) → IsIn xs x → Contains xs x
contains_in [] x is = absurd is
contains_in (y ∷ ys) x (inl same) = (0, omega arith, same)
contains_in (y ∷ ys) x (inr is) = let c = contains_in ys x is in (suc c.0, omega (arith, c.1), c.2)

ids_all : (p : ℤ → Bool) (xs : List ℤ) → IsPassing p least_id (pos 2147483648) xs → xs ≡ filter p ids
unfolding ids
ids_all p xs is = list_from p 4294967295 least_id (pos 2147483648) xs refl is

at_is : (xs : List ℤ) (j : ℕ) (d : ℤ) → j < length xs → Contains xs (get_or xs j d)
at_is xs j d below = (j, below, get_or_default xs j (get_or xs j d) d below)

pub list_is : (p : ℤ → Bool) (P : ℤ → Type 0) (xs : List ℤ) → IsListOf P xs → ((x : ℤ) → P x → p x ≡ true) → ((x : ℤ) → p x ≡ true → P x)
    → ((x : ℤ) → P x → InRange x) → xs ≡ filter p ids
list_is p P xs list to from range = ids_all p xs (record {
  rises = rises_from xs least_id list.ascending (λ j d below. (range (get_or xs j d) (list.each (get_or xs j d) (at_is xs j d below))).0);
  below = all_at (λ x. x <ℤ pos 2147483648) xs (λ x is. (range x (list.each x (contains_in xs x is))).1);
  pass = all_at (λ x. p x ≡ true) xs (λ x is. to x (list.each x (contains_in xs x is)));
  all = λ x up met. in_from xs x (list.all x (from x met));
})
