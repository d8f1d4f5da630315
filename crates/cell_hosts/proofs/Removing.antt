-- Two elements that are taken out of a list at one place, one after the other.
use Rattle.std.proofs.Common.{◌≡◌, ◌<◌, ℕ, zero, suc, List, [], ◌∷◌, length, get_or, Some, slice_get, Result, Ok, Err, OnOk, refl, ap, sym, arith}
use Rattle.std.specs.List.{remove}
use Rattle.cell_hosts.specs.Words.{without_two}

-- the list without both
pub two_removed : {X : Type 0} (xs : List X) (i : ℕ) → i < length xs → remove (remove xs i) i ≡ without_two xs i
two_removed [] i h = absurd (omega arith)
two_removed (x ∷ xs) zero h = refl
two_removed (x ∷ xs) (suc i) h = ap (λ ys. x ∷ ys) (two_removed xs i (omega arith))

-- the second is the one behind the first
pub second_removed : {X : Type 0} (xs : List X) (i : ℕ) (x : X) → i < length xs → i < length (remove xs i) →
    x ≡ get_or (remove xs i) i x → slice_get xs (suc i) ≡ Some x
second_removed [] i x h k e = absurd (omega arith)
second_removed (y ∷ []) zero x h k e = absurd (omega arith)
second_removed (y ∷ z ∷ zs) zero x h k e = ap Some (sym e)
second_removed (y ∷ ys) (suc i) x h k e = second_removed ys i x (omega arith) (omega arith) e

-- what holds at every end holds at a good one
pub either_way : {A E P : Type 0} (r : Result A E) → P → OnOk r P
either_way (Ok x) p = p
either_way (Err e) p = tt
