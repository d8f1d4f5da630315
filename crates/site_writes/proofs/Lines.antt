-- The line of calls, and the ids in it.
use Rattle.std.proofs.Common.{◌≡◌, ℕ, suc, List, [], ◌∷◌, ◌++◌, length, map, drop, Result, Ok, Err, IsOk, OnOk, refl, sym, ap, ◌∙◌}
use Rattle.cell_model.specs.Node.{Waiting}

ids_long : (waiting : List Waiting) → length (map (λ (w : Waiting). w.id) waiting) ≡ length waiting
ids_long [] = refl
ids_long (w ∷ waiting) = ap suc (ids_long waiting)

-- as many calls wait as there are ids
pub as_many : (line : List ℕ) (waiting : List Waiting) → line ≡ map (λ (w : Waiting). w.id) waiting → length waiting ≡ length line
as_many line waiting is = sym (ap length is ∙ ids_long waiting)

-- one more call at the end
pub ids_push : (waiting : List Waiting) (w : Waiting) → map (λ (v : Waiting). v.id) (waiting ++ w ∷ []) ≡ map (λ (v : Waiting). v.id) waiting ++ w.id ∷ []
ids_push [] w = refl
ids_push (first ∷ waiting) w = ap (λ (line : List ℕ). first.id ∷ line) (ids_push waiting w)

-- the first call less
pub ids_drop : (waiting : List Waiting) → drop 1 (map (λ (v : Waiting). v.id) waiting) ≡ map (λ (v : Waiting). v.id) (drop 1 waiting)
ids_drop [] = refl
ids_drop (first ∷ waiting) = refl

-- what is so where a result is Ok, and it is
pub on_ok : {T E P : Type 0} (r : Result T E) → IsOk r → OnOk r P → P
on_ok (Ok value) ok so = so
on_ok (Err fault) ok so = cc
