-- Names around their first `:`, and names with another front.
use Rattle.std.proofs.Common.{◌≡◌, ℕ, suc, ◌+◌, ◌<◌, Bool, true, false, not, ◌||◌, cond, eqb, List, [], ◌∷◌, ◌++◌, length, get_or, take, drop, refl, sym, ap, ◌∙◌, arith}
use Rattle.std.specs.List.{list_any, position_or_len, prefix_len}
use Rattle.std.proofs.lemmas.Bool.{eqb-true}
use Rattle.std.proofs.lemmas.List.{get_or-take, length-take, length-take-le, take_all}
use Rattle.std.proofs.lemmas.List.Folds.{list_any_none}
use Rattle.std.proofs.lemmas.List.Sums.{fails_before_first, passes_at_first, split_at_first}
use Rattle.prdb_layout.specs.Registry.{behind_colon}
use Rattle.prdb_layout.specs.State.{front_of}
use Rattle.pt_service.specs.Names.{has_colon}

abbrev pub is_colon : ℕ → Bool
is_colon b = eqb b 58

abbrev at_colon : List ℕ → ℕ
at_colon name = position_or_len is_colon name

or_two : (a b : Bool) → b ≡ true → (a || b) ≡ true
or_two true b is = refl
or_two false b is = is

pub both_ways : (a b : Bool) → (a ≡ true → b ≡ true) → (b ≡ true → a ≡ true) → a ≡ b
both_ways true b to from = sym (to refl)
both_ways false true to from = from refl
both_ways false false to from = refl

-- ---- a front has no `:`

pub front_free : (name : List ℕ) → list_any is_colon (front_of name) ≡ false
front_free name =
    list_any_none is_colon (front_of name) (λ k d below.
    let low : k < at_colon name = omega (arith, below, length-take (at_colon name) name) in
    ap is_colon (get_or-take (at_colon name) name k d low) ∙ fails_before_first is_colon name k d low)

-- the first `:` of a name that begins with a text without one
colon_by : (x : ℕ) (xs rest : List ℕ) (b : Bool) → is_colon x ≡ b → (b || list_any is_colon xs) ≡ false
    → (list_any is_colon xs ≡ false → at_colon (xs ++ 58 ∷ rest) ≡ length xs) → at_colon (x ∷ (xs ++ 58 ∷ rest)) ≡ suc (length xs)
colon_by x xs rest true is none later = absurd cc
colon_by x xs rest false is none later =
    ap (λ (b : Bool). cond (not b) (1 + prefix_len (λ y. not (is_colon y)) (xs ++ 58 ∷ rest)) 0) is
    ∙ ap (λ (n : ℕ). 1 + n) (later none) ∙ omega arith

colon_at : (xs rest : List ℕ) → list_any is_colon xs ≡ false → at_colon (xs ++ 58 ∷ rest) ≡ length xs
colon_at [] rest none = refl
colon_at (x ∷ xs) rest none = colon_by x xs rest (is_colon x) refl none (colon_at xs rest)

take_front : (xs ys : List ℕ) → take (length xs) (xs ++ ys) ≡ xs
take_front [] ys = refl
take_front (x ∷ xs) ys = ap (λ (zs : List ℕ). x ∷ zs) (take_front xs ys)

drop_past : (xs : List ℕ) (y : ℕ) (ys : List ℕ) → drop (length xs + 1) (xs ++ y ∷ ys) ≡ ys
drop_past [] y ys = refl
drop_past (x ∷ xs) y ys =
    let next : length (x ∷ xs) + 1 ≡ suc (length xs + 1) = omega arith in
    ap (λ (n : ℕ). drop n (x ∷ (xs ++ y ∷ ys))) next ∙ drop_past xs y ys

pub front_again : (xs rest : List ℕ) → list_any is_colon xs ≡ false → front_of (xs ++ 58 ∷ rest) ≡ xs
front_again xs rest none = ap (λ (n : ℕ). take n (xs ++ 58 ∷ rest)) (colon_at xs rest none) ∙ take_front xs (58 ∷ rest)

pub behind_again : (xs rest : List ℕ) → list_any is_colon xs ≡ false → behind_colon (xs ++ 58 ∷ rest) ≡ rest
behind_again xs rest none =
    ap (λ (front : List ℕ). drop (length front + 1) (xs ++ 58 ∷ rest)) (front_again xs rest none) ∙ drop_past xs 58 rest

-- ---- a name is its front, a `:` and what stands behind it

within_by : (x : ℕ) (xs : List ℕ) (b : Bool) → is_colon x ≡ b → (b || list_any is_colon xs) ≡ true
    → (list_any is_colon xs ≡ true → at_colon xs < length xs)
    → at_colon (x ∷ xs) < length (x ∷ xs)
within_by x xs true is has later =
    let here : at_colon (x ∷ xs) ≡ 0 = ap (λ (b : Bool). cond (not b) (1 + prefix_len (λ y. not (is_colon y)) xs) 0) is in
    omega (arith, here)
within_by x xs false is has later =
    let here : at_colon (x ∷ xs) ≡ 1 + at_colon xs = ap (λ (b : Bool). cond (not b) (1 + prefix_len (λ y. not (is_colon y)) xs) 0) is in
    let less = later has in
    omega (arith, here, less)

colon_within : (name : List ℕ) → has_colon name ≡ true → at_colon name < length name
colon_within [] has = absurd cc
colon_within (x ∷ xs) has = within_by x xs (is_colon x) refl has (colon_within xs)

pub parts_of : (name : List ℕ) → has_colon name ≡ true → name ≡ front_of name ++ 58 ∷ behind_colon name
parts_of name has =
    let below = colon_within name has in
    let colon : get_or name (at_colon name) 0 ≡ 58 = eqb-true (get_or name (at_colon name) 0) 58 (passes_at_first is_colon name 0 below) in
    let size : length (front_of name) ≡ at_colon name = length-take-le (at_colon name) name (omega (arith, below)) in
    split_at_first is_colon name 0 below
    ∙ ap (λ (b : ℕ). front_of name ++ b ∷ drop (at_colon name + 1) name) colon
    ∙ ap (λ (n : ℕ). front_of name ++ 58 ∷ drop (n + 1) name) (sym size)

-- ---- a text without a `:` is its own front

none_by : (x : ℕ) (xs : List ℕ) (b : Bool) → is_colon x ≡ b → (b || list_any is_colon xs) ≡ false
    → (list_any is_colon xs ≡ false → at_colon xs ≡ length xs)
    → at_colon (x ∷ xs) ≡ length (x ∷ xs)
none_by x xs true is none later = absurd cc
none_by x xs false is none later =
    ap (λ (b : Bool). cond (not b) (1 + prefix_len (λ y. not (is_colon y)) xs) 0) is ∙ ap (λ (n : ℕ). 1 + n) (later none) ∙ omega arith

none_at : (xs : List ℕ) → list_any is_colon xs ≡ false → at_colon xs ≡ length xs
none_at [] none = refl
none_at (x ∷ xs) none = none_by x xs (is_colon x) refl none (none_at xs)

pub front_all : (xs : List ℕ) → list_any is_colon xs ≡ false → front_of xs ≡ xs
front_all xs none = take_all (at_colon xs) xs (let at = none_at xs none in omega (arith, at))

-- ---- a `:` behind a front

pub colon_there : (front rest : List ℕ) → has_colon (front ++ 58 ∷ rest) ≡ true
colon_there [] rest = refl
colon_there (x ∷ xs) rest = or_two (is_colon x) (list_any is_colon (xs ++ 58 ∷ rest)) (colon_there xs rest)
