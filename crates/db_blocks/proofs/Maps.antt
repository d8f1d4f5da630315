-- The blocks of an image behind its head are those of a map: each is free and zero, or that of an entry, and each entry has one.
use Rattle.std.proofs.Common.{◌≡◌, ◌≢◌, ◌⊎◌, ℕ, Bool, true, false, cond, eqb, Option, Some, ap, ⊎_elim}
use Rattle.std.proofs.lemmas.Bool.{cases_Bool, eqb-true, eq-eqb}

-- ---- a map with something else under a number

abbrev pub set_under : {E : Type 0} → ℕ → Option E → (ℕ → Option E) → ℕ → Option E
set_under x content entry id = cond (eqb id x) content (entry id)

pub test_other : (a b : ℕ) → a ≢ b → eqb a b ≡ false
test_other a b other = ⊎_elim (λ (t : eqb a b ≡ true). absurd (other (eqb-true a b t))) (λ (f : eqb a b ≡ false). f) (cases_Bool (eqb a b))

pub under_same : {E : Type 0} (x id : ℕ) (content : Option E) (entry : ℕ → Option E) → id ≡ x → set_under x content entry id ≡ content
under_same x id content entry same = ap (λ (b : Bool). cond b content (entry id)) (eq-eqb id x same)

pub under_other : {E : Type 0} (x id : ℕ) (content : Option E) (entry : ℕ → Option E) → id ≢ x → set_under x content entry id ≡ entry id
under_other x id content entry other = ap (λ (b : Bool). cond b content (entry id)) (test_other id x other)

pub some_same : {X : Type 0} {x y : X} → Some x ≡ Some y → x ≡ y
some_same e = cc
