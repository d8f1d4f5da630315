-- A list into which each number is put in the order of the keys.
use Rattle.std.proofs.Common.{◌≡◌, ℕ, zero, suc, ◌<◌, ◌≤◌, Bool, true, false, cond, ltb, List, [], ◌∷◌, map, take, get_or, length, refl, sym, ap, subst, ◌∙◌, inl, inr, arith}
use Rattle.std.specs.List.{AllByRecursion, insert}
use Rattle.std.specs.List.Sorted.{IsNonDecreasingBy}
use Rattle.std.proofs.lemmas.Bool.{cases_Bool, lt-ltb, le-ltb}
use Rattle.std.proofs.lemmas.List.{take-take}
use Rattle.std.proofs.lemmas.List.Sorted.{IsNonDecreasingBy-insert, IsNonDecreasingBy-take}
use Rattle.db_blocks.specs.Ascending.{put_by}

-- ---- by what stands first

here_if : {X : Type 0} (b : Bool) (xs ys : List X) → b ≡ true → cond b xs ys ≡ xs
here_if {X = X} true xs ys is = refl
here_if {X = X} false xs ys is = absurd cc

else_if : {X : Type 0} (b : Bool) (xs ys : List X) → b ≡ false → cond b xs ys ≡ ys
else_if {X = X} true xs ys is = absurd cc
else_if {X = X} false xs ys is = refl

-- ---- the first so many of them are enough

take_cond : {X : Type 0} (n : ℕ) (b : Bool) (xs ys : List X) → take n (cond b xs ys) ≡ cond b (take n xs) (take n ys)
take_cond {X = X} n true xs ys = refl
take_cond {X = X} n false xs ys = refl

same_cond : {X : Type 0} (b : Bool) (xs ys us vs : List X) → xs ≡ us → ys ≡ vs → cond b xs ys ≡ cond b us vs
same_cond {X = X} b xs ys us vs first second = ap (λ (zs : List X). cond b zs ys) first ∙ ap (λ (zs : List X). cond b us zs) second

-- one first is left out
take_behind : {X : Type 0} (m : ℕ) (x : X) (xs : List X) → take m (x ∷ take m xs) ≡ take m (x ∷ xs)
take_behind {X = X} zero x xs = refl
take_behind {X = X} (suc m) x xs = ap (λ (ys : List X). x ∷ ys) (take-take m (suc m) xs (omega arith))

pub take_put : {X : Type 0} (key : X → ℕ) (new : X) (n : ℕ) (xs : List X) → take n (put_by key new (take n xs)) ≡ take n (put_by key new xs)
take_put {X = X} key new zero xs = refl
take_put {X = X} key new (suc n) [] = refl
take_put {X = X} key new (suc n) (x ∷ xs) =
    let b = ltb (key new) (key x) in
    take_cond (suc n) b (new ∷ x ∷ take n xs) (x ∷ put_by key new (take n xs))
    ∙ same_cond b (new ∷ take n (x ∷ take n xs)) (x ∷ take n (put_by key new (take n xs))) (new ∷ take n (x ∷ xs)) (x ∷ take n
    (put_by key new xs))
    (ap (λ (ys : List X). new ∷ ys) (take_behind n x xs)) (ap (λ (ys : List X). x ∷ ys) (take_put key new n xs))
    ∙ sym (take_cond (suc n) b (new ∷ x ∷ xs) (x ∷ put_by key new xs))

-- ---- seen in another form

map_cond : {X Y : Type 0} (f : X → Y) (b : Bool) (xs ys : List X) → map f (cond b xs ys) ≡ cond b (map f xs) (map f ys)
map_cond {X = X} {Y = Y} f true xs ys = refl
map_cond {X = X} {Y = Y} f false xs ys = refl

pub map_put : {X Y : Type 0} (f : X → Y) (key : Y → ℕ) (new : X) (xs : List X)
    → map f (put_by (λ x. key (f x)) new xs) ≡ put_by key (f new) (map f xs)
map_put {X = X} {Y = Y} f key new [] = refl
map_put {X = X} {Y = Y} f key new (x ∷ xs) =
    map_cond f (ltb (key (f new)) (key (f x))) (new ∷ x ∷ xs) (x ∷ put_by (λ x. key (f x)) new xs)
    ∙ ap (λ (ys : List Y). cond (ltb (key (f new)) (key (f x))) (f new ∷ f x ∷ map f xs) (f x ∷ ys)) (map_put f key new xs)

-- ---- where it is put

-- it goes before the first one with a greater key
put_at : {X : Type 0} (key : X → ℕ) (new : X) (xs : List X) (i : ℕ) → i ≤ length xs
    → ((k : ℕ) (d : X) → k < i → key (get_or xs k d) ≤ key new)
    → ((k : ℕ) (d : X) → i ≤ k → k < length xs → key new < key (get_or xs k d)) → insert xs i new ≡ put_by key new xs
put_at {X = X} key new [] zero within before behind = refl
put_at {X = X} key new [] (suc i) within before behind = absurd (omega arith)
put_at {X = X} key new (x ∷ xs) zero within before behind =
    sym (here_if (ltb (key new) (key x)) (new ∷ x ∷ xs) (x ∷ put_by key new xs) (lt-ltb (key new) (key x) (behind 0 x (omega arith)
    (omega arith))))
put_at {X = X} key new (x ∷ xs) (suc i) within before behind =
    ap (λ (ys : List X). x ∷ ys) (put_at key new xs i (omega arith) (λ k d below. before (suc k) d (omega arith))
    (λ k d from below. behind (suc k) d (omega arith) (omega arith)))
    ∙ sym (else_if (ltb (key new) (key x)) (new ∷ x ∷ xs) (x ∷ put_by key new xs) (le-ltb (key new) (key x) (before 0 x (omega arith))))

-- behind all of so many it is left out
take_insert : {X : Type 0} (new : X) (xs : List X) (i : ℕ) → i ≡ length xs → take i (insert xs i new) ≡ xs
take_insert {X = X} new [] zero is = refl
take_insert {X = X} new [] (suc i) is = absurd (omega arith)
take_insert {X = X} new (x ∷ xs) zero is = absurd (omega arith)
take_insert {X = X} new (x ∷ xs) (suc i) is = ap (λ (ys : List X). x ∷ ys) (take_insert new xs i (omega arith))

left_out : {X : Type 0} (new : X) (xs : List X) (most i : ℕ) → i ≤ length xs → length xs ≤ most → most ≤ i
    → take most (insert xs i new) ≡ xs
left_out {X = X} new xs most i within few full =
    let all : most ≡ i = omega arith in
    ap (λ (n : ℕ). take n (insert xs i new)) all ∙ take_insert new xs i (omega arith)

-- of so many a place was found for it
pub kept_put : {X : Type 0} (key : X → ℕ) (new : X) (xs : List X) (most i : ℕ) → i ≤ length xs
    → ((k : ℕ) (d : X) → k < i → key (get_or xs k d) ≤ key new)
    → ((k : ℕ) (d : X) → i ≤ k → k < length xs → key new < key (get_or xs k d))
    → take most (insert xs i new) ≡ take most (put_by key new xs)
kept_put key new xs most i within before behind = ap (take most) (put_at key new xs i within before behind)

pub kept_full : {X : Type 0} (key : X → ℕ) (new : X) (xs : List X) (most i : ℕ) → i ≤ length xs → length xs ≤ most → most ≤ i
    → ((k : ℕ) (d : X) → k < i → key (get_or xs k d) ≤ key new)
    → ((k : ℕ) (d : X) → i ≤ k → k < length xs → key new < key (get_or xs k d))
    → xs ≡ take most (put_by key new xs)
kept_full key new xs most i within few full before behind = sym (left_out new xs most i within few full)
    ∙ kept_put key new xs most i within before behind

le_from : (a b : ℕ) → a < b → a ≤ b
le_from a b less = omega arith

pub order_put : {X : Type 0} (key : X → ℕ) (new : X) (xs : List X) (most i : ℕ) → IsNonDecreasingBy key xs → i ≤ length xs
    → ((k : ℕ) (d : X) → k < i → key (get_or xs k d) ≤ key new)
    → ((k : ℕ) (d : X) → i ≤ k → k < length xs → key new < key (get_or xs k d))
    → IsNonDecreasingBy key (take most (insert xs i new))
order_put key new xs most i order within before behind =
    IsNonDecreasingBy-take key most (insert xs i new)
    (IsNonDecreasingBy-insert key xs i new order within before (λ k d from below. le_from (key new) (key (get_or xs k d))
    (behind k d from below)))

-- ---- what is in it

pub all_put : {X : Type 0} (P : X → Type 0) (key : X → ℕ) (new : X) (xs : List X) → P new → AllByRecursion P xs
    → AllByRecursion P (put_by key new xs)
all_put P key new [] here all = (here, tt)
all_put P key new (x ∷ xs) here all =
    elim (cases_Bool (ltb (key new) (key x))) [
      | inl is ↦ subst (AllByRecursion P) (sym (here_if (ltb (key new) (key x)) (new ∷ x ∷ xs) (x ∷ put_by key new xs) is)) (here, all)
      | inr is ↦
          subst (AllByRecursion P) (sym (else_if (ltb (key new) (key x)) (new ∷ x ∷ xs) (x ∷ put_by key new xs) is))
          (all.0, all_put P key new xs here all.1)
    ]

pub all_take : {X : Type 0} (P : X → Type 0) (n : ℕ) (xs : List X) → AllByRecursion P xs → AllByRecursion P (take n xs)
all_take P zero xs all = tt
all_take P (suc n) [] all = tt
all_take P (suc n) (x ∷ xs) all = (all.0, all_take P n xs all.1)
