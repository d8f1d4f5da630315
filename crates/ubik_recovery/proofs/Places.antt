-- Lists with a place for each server of a cell, in a list with room for more.
use Rattle.std.proofs.Common.{◌≡◌, ℕ, zero, suc, ◌+◌, ◌<◌, ◌≤◌, Bool, Option, None, is_some, List, [], ◌∷◌, ◌++◌, length, take, set, get_or, map, replicate, refl, ap, sym, ◌∙◌, arith}
use Rattle.std.proofs.lemmas.List.{take-replicate, take_more, take_more_set, map-append}
use Rattle.cell_model.specs.Polls.{only_at, entry_at}

pub take-only_at : {A : Type 0} (n m me : ℕ) (one others : A) → n ≤ m → take n (set (replicate m others) me one) ≡ only_at one others n me
take-only_at {A = A} zero m me one others few = refl
take-only_at {A = A} (suc n) zero me one others few = absurd (omega arith)
take-only_at {A = A} (suc n) (suc m) zero one others few = ap (λ (rest : List A). one ∷ rest) (take-replicate n m others (omega arith))
take-only_at {A = A} (suc n) (suc m) (suc me) one others few = ap (λ (rest : List A). others ∷ rest) (take-only_at n m me one others (omega arith))

pub take-set_any : {A : Type 0} (n : ℕ) (xs : List A) (i : ℕ) (x : A) → take n (set xs i x) ≡ set (take n xs) i x
take-set_any {A = A} zero xs i x = refl
take-set_any {A = A} (suc n) [] i x = refl
take-set_any {A = A} (suc n) (y ∷ xs) zero x = refl
take-set_any {A = A} (suc n) (y ∷ xs) (suc i) x = ap (λ (rest : List A). y ∷ rest) (take-set_any n xs i x)

pub entry_at-take : {A : Type 0} (n : ℕ) (xs : List (Option A)) (k : ℕ) → k < n → entry_at (take n xs) k ≡ get_or xs k None
entry_at-take {A = A} zero xs k inside = absurd (omega arith)
entry_at-take {A = A} (suc n) [] k inside = refl
entry_at-take {A = A} (suc n) (x ∷ xs) zero inside = refl
entry_at-take {A = A} (suc n) (x ∷ xs) (suc k) inside = entry_at-take n xs k (omega arith)

pub entry_at-past : {A : Type 0} (n : ℕ) (xs : List (Option A)) (k : ℕ) → n ≤ k → entry_at (take n xs) k ≡ None
entry_at-past {A = A} zero xs k past = refl
entry_at-past {A = A} (suc n) [] k past = refl
entry_at-past {A = A} (suc n) (x ∷ xs) zero past = absurd (omega arith)
entry_at-past {A = A} (suc n) (x ∷ xs) (suc k) past = entry_at-past n xs k (omega arith)

-- one more mark
pub marks-step : {A : Type 0} (answers : List (Option A)) (marks : List Bool) (i : ℕ) (mark : Bool) → i < length marks → i < length answers → mark ≡ is_some (get_or answers i None) → take i marks ≡ map is_some (take i answers) → take (i + 1) (set marks i mark) ≡ map is_some (take (i + 1) answers)
marks-step {A = A} answers marks i mark room inside is so_far =
    let next : take (i + 1) answers ≡ take i answers ++ get_or answers i None ∷ [] = take_more answers i None inside in
    take_more_set marks i mark room
    ∙ ap (λ (those : List Bool). those ++ mark ∷ []) so_far
    ∙ ap (λ (one : Bool). map is_some (take i answers) ++ one ∷ []) is
    ∙ sym (map-append is_some (take i answers) (get_or answers i None ∷ []))
    ∙ sym (ap (λ (those : List (Option A)). map is_some those) next)
