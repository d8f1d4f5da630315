-- Clocks that are near, before and after a tick.
use Rattle.std.proofs.Common.{◌≡◌, ◌≢◌, ◌<◌, ◌≤◌, ◌+◌, ◌&&◌, ◌⊎◌, ℕ, zero, suc, Bool, true, false, List, [], ◌∷◌, length, map, set, get_or, inl, inr, refl, ap}
use Rattle.std.proofs.Common.{◌∙◌, arith}
use Rattle.std.specs.Prelude.{nat_le, nat_lt}
use Rattle.std.specs.List.{list_all}
use Rattle.std.proofs.lemmas.Bool.{leb-true, le-leb}
use Rattle.std.proofs.lemmas.List.{get_or-set_same, get_or-set_other}
use Rattle.std.proofs.lemmas.List.Sums.{AllPass-from_list_all, list_all-from_AllPass}
use Rattle.ubik_types.specs.declared.limits.TheConstants.{MAX_MOMENT, SKEW}
use Rattle.cell_model.specs.World.{are_near, are_moments}

-- no clock is more than 7 seconds past another one
abbrev pub AreNear : List ℕ → Type 0
AreNear clocks = (i j : ℕ) → i < length clocks → j < length clocks → get_or clocks i 0 ≤ get_or clocks j 0 + SKEW

within_all : List ℕ → ℕ → Bool
within_all clocks a = list_all (λ b. nat_le a (b + SKEW)) clocks

pub near_read : (clocks : List ℕ) → are_near clocks ≡ true → AreNear clocks
unfolding within_all
near_read clocks near i j lt lt' =
    let row = AllPass-from_list_all (within_all clocks) clocks near i 0 lt in
    leb-true (get_or clocks i 0) (get_or clocks j 0 + SKEW)
    (AllPass-from_list_all (λ (b : ℕ). nat_le (get_or clocks i 0) (b + SKEW)) clocks row j 0 lt')

-- an element does not depend on what stands for one past the end
any_default : (xs : List ℕ) (k d : ℕ) → k < length xs → get_or xs k d ≡ get_or xs k 0
any_default [] k d lt = absurd (omega arith)
any_default (x ∷ xs) zero d lt = refl
any_default (x ∷ xs) (suc k) d lt = any_default xs k d (omega arith)

pub near_make : (clocks : List ℕ) → AreNear clocks → are_near clocks ≡ true
unfolding within_all
near_make clocks near =
    list_all-from_AllPass (within_all clocks) clocks (λ i d lt.
    list_all-from_AllPass (λ (b : ℕ). nat_le (get_or clocks i d) (b + SKEW)) clocks (λ j e lt'.
    le-leb (get_or clocks i d) (get_or clocks j e + SKEW)
    (let n = near i j lt lt' in omega (arith, n, any_default clocks i d lt, any_default clocks j e lt'))))

same_or_not : (i k : ℕ) → (i ≡ k) ⊎ (i ≢ k)
same_or_not zero zero = inl refl
same_or_not zero (suc k) = inr (λ is. absurd (omega (arith, is)))
same_or_not (suc i) zero = inr (λ is. absurd (omega (arith, is)))
same_or_not (suc i) (suc k) =
    elim (same_or_not i k) [ inl is ↦ inl (omega (arith, is)) | inr other ↦ inr (λ is. other (omega (arith, is))) ]

length_set : (xs : List ℕ) (k x : ℕ) → length (set xs k x) ≡ length xs
length_set [] k x = refl
length_set (y ∷ xs) zero x = refl
length_set (y ∷ xs) (suc k) x = let rest = length_set xs k x in omega (arith, rest)

-- the clock at a place went forward to one that is not too far past any other one
pub near_set : (clocks : List ℕ) (k now : ℕ) → AreNear clocks → k < length clocks → get_or clocks k 0 ≤ now
    → ((j : ℕ) → j < length clocks → j ≢ k → now ≤ get_or clocks j 0 + SKEW) → AreNear (set clocks k now)
near_set clocks k now near there later ok i j lt lt' =
    let at : get_or (set clocks k now) k 0 ≡ now = get_or-set_same clocks k now 0 there in
    let same : length (set clocks k now) ≡ length clocks = length_set clocks k now in
    elim (same_or_not i k) [
      | inl is ↦ elim (same_or_not j k) [
        | inl is' ↦
            let x : get_or (set clocks k now) i 0 ≡ now = ap (λ (n : ℕ). get_or (set clocks k now) n 0) is ∙ at in
            let y : get_or (set clocks k now) j 0 ≡ now = ap (λ (n : ℕ). get_or (set clocks k now) n 0) is' ∙ at in
            omega (arith, x, y)
        | inr other' ↦
            let x : get_or (set clocks k now) i 0 ≡ now = ap (λ (n : ℕ). get_or (set clocks k now) n 0) is ∙ at in
            let y : get_or (set clocks k now) j 0 ≡ get_or clocks j 0 = get_or-set_other clocks k j now 0 other' in
            let n = ok j (omega (arith, lt', same)) other' in
            omega (arith, x, y, n)
      ]
      | inr other ↦ elim (same_or_not j k) [
        | inl is' ↦
            let x : get_or (set clocks k now) i 0 ≡ get_or clocks i 0 = get_or-set_other clocks k i now 0 other in
            let y : get_or (set clocks k now) j 0 ≡ now = ap (λ (n : ℕ). get_or (set clocks k now) n 0) is' ∙ at in
            let n = near i k (omega (arith, lt, same)) there in
            omega (arith, x, y, n, later)
        | inr other' ↦
            let x : get_or (set clocks k now) i 0 ≡ get_or clocks i 0 = get_or-set_other clocks k i now 0 other in
            let y : get_or (set clocks k now) j 0 ≡ get_or clocks j 0 = get_or-set_other clocks k j now 0 other' in
            let n = near i j (omega (arith, lt, same)) (omega (arith, lt', same)) in
            omega (arith, x, y, n)
      ]
    ]

-- what such a clock may be
pub near_unset : (clocks : List ℕ) (k now : ℕ) → AreNear (set clocks k now) → k < length clocks → (j : ℕ) → j < length clocks → j ≢ k
    → now ≤ get_or clocks j 0 + SKEW
near_unset clocks k now near there j lt other =
    let at : get_or (set clocks k now) k 0 ≡ now = get_or-set_same clocks k now 0 there in
    let same : length (set clocks k now) ≡ length clocks = length_set clocks k now in
    let y : get_or (set clocks k now) j 0 ≡ get_or clocks j 0 = get_or-set_other clocks k j now 0 other in
    let n = near k j (omega (arith, there, same)) (omega (arith, lt, same)) in
    omega (arith, at, y, n)

-- all clocks went forward
pub near_all : (clocks : List ℕ) (seconds : ℕ) → AreNear clocks → AreNear (map (λ (n : ℕ). n + seconds) clocks)
near_all clocks seconds near i j lt lt' =
    let same = length_map_on clocks seconds in
    let x = at_map_on clocks seconds i (omega (arith, lt, same)) in
    let y = at_map_on clocks seconds j (omega (arith, lt', same)) in
    let n = near i j (omega (arith, lt, same)) (omega (arith, lt', same)) in
    omega (arith, x, y, n)
  where
    length_map_on : (xs : List ℕ) (s : ℕ) → length (map (λ (n : ℕ). n + s) xs) ≡ length xs
    length_map_on [] s = refl
    length_map_on (x ∷ xs) s = let rest = length_map_on xs s in omega (arith, rest)

    at_map_on : (xs : List ℕ) (s k : ℕ) → k < length xs → get_or (map (λ (n : ℕ). n + s) xs) k 0 ≡ get_or xs k 0 + s
    at_map_on [] s k less = absurd (omega arith)
    at_map_on (x ∷ xs) s zero less = refl
    at_map_on (x ∷ xs) s (suc k) less = at_map_on xs s k (omega arith)

-- clocks that are all the same
pub near_same : (clocks : List ℕ) (clock : ℕ) → ((k : ℕ) → k < length clocks → get_or clocks k 0 ≡ clock) → AreNear clocks
near_same clocks clock all i j lt lt' = omega (arith, all i lt, all j lt')

both : (a b : Bool) → a ≡ true → b ≡ true → (a && b) ≡ true
both true true is is' = refl
both true false is is' = is'
both false b is is' = is

pub moments_make : (clocks : List ℕ) → ((k : ℕ) → k < length clocks → (0 < get_or clocks k 0) × (get_or clocks k 0 ≤ MAX_MOMENT))
    → are_moments clocks ≡ true
moments_make clocks all =
    list_all-from_AllPass (λ (a : ℕ). nat_lt 0 a && nat_le a MAX_MOMENT) clocks (λ k d lt.
    let n = all k lt in
    let e = any_default clocks k d lt in
    both (nat_lt 0 (get_or clocks k d)) (nat_le (get_or clocks k d) MAX_MOMENT)
    (le-leb 1 (get_or clocks k d) (omega (arith, n.0, e))) (le-leb (get_or clocks k d) MAX_MOMENT (omega (arith, n.1, e))))
