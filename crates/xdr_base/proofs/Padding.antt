-- The bytes behind an opaque.
use Rattle.std.proofs.Common.{◌≡◌, ℕ, zero, suc, ◌+◌, ◌≤◌, true, false, Bool, ◌&&◌, List, [], ◌∷◌, ◌++◌, length, take, drop, replicate, refl, sym, ap, ◌∙◌, append_assoc, arith, eqb}
use Rattle.std.specs.List.{list_all}
use Rattle.std.proofs.lemmas.List.{take-append-drop, drop-drop, length-take, length-drop}
use Rattle.std.proofs.lemmas.Bool.{eqb-true}

abbrev pub is_zero : ℕ → Bool
is_zero b = eqb b 0

and_true : (a b : Bool) → (a && b) ≡ true → (a ≡ true) × (b ≡ true)
and_true true b e = (refl, e)
and_true false b e = absurd cc

-- bytes that are all zero
pub zeros_are : (xs : List ℕ) → list_all is_zero xs ≡ true → xs ≡ replicate (length xs) 0
zeros_are [] e = refl
zeros_are (x ∷ xs) e =
    let parts = and_true (is_zero x) (list_all is_zero xs) e in
    let head : x ≡ 0 = eqb-true x 0 parts.0 in
    let tail : xs ≡ replicate (length xs) 0 = zeros_are xs parts.1 in
    cc

-- zero bytes are all zero
pub all_are_zeros : (n : ℕ) → list_all is_zero (replicate n 0) ≡ true
all_are_zeros zero = refl
all_are_zeros (suc n) = all_are_zeros n

-- what stands behind the word that gives the length
pub body_found : (rest : List ℕ) (len pad : ℕ) → 4 + len + pad ≤ length rest → list_all is_zero (take pad (drop (4 + len) rest)) ≡ true
    → drop 4 rest ≡ (take len (drop 4 rest) ++ replicate pad 0) ++ drop (4 + len + pad) rest
body_found rest len pad fits zeros =
    let behind : drop len (drop 4 rest) ≡ drop (4 + len) rest = drop-drop len 4 rest in
    let long : length (take pad (drop (4 + len) rest)) ≡ pad = omega (arith, length-take pad (drop (4 + len) rest), length-drop (4 + len) rest) in
    let filled : take pad (drop (4 + len) rest) ≡ replicate pad 0 = zeros_are (take pad (drop (4 + len) rest)) zeros ∙ ap (λ n. replicate n 0) long in
    let split : drop (4 + len) rest ≡ replicate pad 0 ++ drop (4 + len + pad) rest =
    sym (take-append-drop pad (drop (4 + len) rest)) ∙ ap (λ (x : List ℕ). x ++ drop pad (drop (4 + len) rest)) filled ∙ ap (λ (x : List ℕ). replicate pad 0 ++ x) (drop-drop pad (4 + len) rest) in
    sym (take-append-drop len (drop 4 rest)) ∙ ap (λ (x : List ℕ). take len (drop 4 rest) ++ x) (behind ∙ split) ∙ sym (append_assoc (take len (drop 4 rest)) (replicate pad 0) (drop (4 + len + pad) rest))
