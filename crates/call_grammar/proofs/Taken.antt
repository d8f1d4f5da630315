-- What stands at a reader's place is spelled there.
use Rattle.std.proofs.Common.{◌≡◌, ℕ, zero, suc, ◌≤◌, Bool, true, false, cond, eqb, List, [], ◌∷◌, length, Option, Some, None, refl, ap, subst, arith, sym}
use Rattle.std.specs.List.{flat_map, AllByRecursion}
use Rattle.std.proofs.lemmas.Bool.{eqb-true}
use Rattle.std.proofs.lemmas.List.{nil_from_length}
use Rattle.std.proofs.lemmas.List.Concat.{flat_map-cons}
use Rattle.xdr_base.specs.Spelling.{word}
use Rattle.xdr_base.specs.Reading.{Reading}
use Rattle.call_grammar.specs.Items.{Count, xdr_text}
use Rattle.call_grammar.specs.Laws.{IsBytes}
use Rattle.call_grammar.specs.Lists.{listed, spelled}
use Rattle.call_grammar.specs.Reading.{◌>>=◌, items_at, list_at, values, values_at, AllValues, xdr_item, whole}
use Rattle.call_grammar.proofs.ItemsTaken.{Takes, then_takes, length_takes}

-- the value of a step that gave one
pub bind_some : {A B : Type 0} (o : Option A) (f : A → Option B) (y : B) → (o >>= f) ≡ Some y → (x : A) × (o ≡ Some x) × (f x ≡ Some y)
bind_some (Some x) f y e = (x, refl, e)
bind_some None f y e = absurd cc

abbrev pub given : {A : Type 0} → A → Option A
given x = Some x

pub given_is : {A : Type 0} (x y : A) → given x ≡ given y → x ≡ y
given_is x y e = cc

items_take : {A : Type 0} (at : Reading → Option (A × Reading)) (spell : A → List ℕ) (P : A → Type 0)
    → ((from : Reading) (x : A × Reading) → IsBytes from.rest → at from ≡ Some x → Takes from (spell x.0) x.1 × P x.0)
    → (n : ℕ) (from : Reading) (x : List A × Reading) → IsBytes from.rest → items_at at n from ≡ Some x
    → Takes from (flat_map spell x.0) x.1 × (length x.0 ≡ n) × AllByRecursion P x.0
items_take {A = A} at spell P each zero from x fits e =
    subst (λ (y : List A × Reading). Takes from (flat_map spell y.0) y.1 × (length y.0 ≡ 0) × AllByRecursion P y.0) (given_is ([], from) x e) (record { parts = refl; left = fits }, refl, tt)
items_take {A = A} at spell P each (suc n) from x fits e =
    let a = bind_some (at from) (λ first. items_at at n first.1 >>= λ others. Some (first.0 ∷ others.0, others.1)) x e in
    let b = bind_some (items_at at n a.0.1) (λ others. Some (a.0.0 ∷ others.0, others.1)) x a.2 in
    let first = each from a.0 fits a.1 in
    let others = items_take at spell P each n a.0.1 b.0 first.0.left b.1 in
    let both = then_takes from a.0.1 b.0.1 (spell a.0.0) (flat_map spell b.0.0) first.0 others.0 in
    let size : length (a.0.0 ∷ b.0.0) ≡ suc n = ap suc others.1 in
    subst (λ (y : List A × Reading). Takes from (flat_map spell y.0) y.1 × (length y.0 ≡ suc n) × AllByRecursion P y.0) (given_is (a.0.0 ∷ b.0.0, b.0.1) x b.2)
    (rw (flat_map-cons spell a.0.0 b.0.0) both, size, (first.1, others.2))

pub list_takes : {A : Type 0} (most : ℕ) (at : Reading → Option (A × Reading)) (spell : A → List ℕ) (P : A → Type 0)
    → ((from : Reading) (x : A × Reading) → IsBytes from.rest → at from ≡ Some x → Takes from (spell x.0) x.1 × P x.0)
    → (from : Reading) (x : List A × Reading) → IsBytes from.rest → list_at xdr_item most at from ≡ Some x
    → Takes from (listed xdr_text spell x.0) x.1 × (length x.0 ≤ most) × AllByRecursion P x.0
unfolding list_at
list_takes most at spell P each from x fits e =
    let a = bind_some (xdr_item (Count most) from) (λ count. items_at at count.0 count.1) x e in
    let count = length_takes most from a.0 fits a.1 in
    let items = items_take at spell P each a.0.0 a.0.1 x count.0.left a.2 in
    let both = then_takes from a.0.1 x.1 (word a.0.0) (flat_map spell x.0) count.0 items.0 in
    (rw items.1 both, omega (arith, items.1, count.1), items.2)

-- these values were read, one after the other
pub record TakesAll {U : Type 0} (value_of : U → Type 0) (spell : (shape : U) → value_of shape → List ℕ) (P Q : (shape : U) → value_of shape → Type 0) (old : Reading) (shapes : List U) (v : values value_of shapes) (new : Reading) : Type 0 where
  pub takes : Takes old (spelled value_of spell shapes v) new
  pub bounded : AllValues value_of P shapes v
  pub bits : AllValues value_of Q shapes v

pub values_take : {U : Type 0} (value_of : U → Type 0) (at : (shape : U) → Reading → Option (value_of shape × Reading)) (spell : (shape : U) → value_of shape → List ℕ) (P Q : (shape : U) → value_of shape → Type 0)
    → ((shape : U) (from : Reading) (x : value_of shape × Reading) → IsBytes from.rest → at shape from ≡ Some x → Takes from (spell shape x.0) x.1 × P shape x.0 × Q shape x.0)
    → (shapes : List U) (from : Reading) (x : values value_of shapes × Reading) → IsBytes from.rest → values_at value_of at shapes from ≡ Some x → TakesAll value_of spell P Q from shapes x.0 x.1
values_take value_of at spell P Q each [] from x fits e =
    subst (λ (y : values value_of [] × Reading). TakesAll value_of spell P Q from [] y.0 y.1) (given_is (tt, from) x e) (record { takes = record { parts = refl; left = fits }; bounded = tt; bits = tt })
values_take value_of at spell P Q each (shape ∷ shapes) from x fits e =
    let a = bind_some (at shape from) (λ first. values_at value_of at shapes first.1 >>= λ others. Some ((first.0, others.0), others.1)) x e in
    let b = bind_some (values_at value_of at shapes a.0.1) (λ others. Some ((a.0.0, others.0), others.1)) x a.2 in
    let first = each shape from a.0 fits a.1 in
    let others = values_take value_of at spell P Q each shapes a.0.1 b.0 first.0.left b.1 in
    let both = then_takes from a.0.1 b.0.1 (spell shape a.0.0) (spelled value_of spell shapes b.0.0) first.0 others.takes in
    subst (λ (y : values value_of (shape ∷ shapes) × Reading). TakesAll value_of spell P Q from (shape ∷ shapes) y.0 y.1) (given_is ((a.0.0, b.0.0), b.0.1) x b.2)
    (record { takes = both; bounded = (first.1, others.bounded); bits = (first.2, others.bits) })

-- one of these tests holds, or none
test_by : {A : Type 0} (n k : ℕ) (b : Bool) (x y : A) (others : Option A) (P : ℕ → A → Type 0) → eqb n k ≡ b → cond b (Some x) others ≡ Some y → P k x → (others ≡ Some y → P n y) → P n y
test_by {A = A} n k true x y others P is e here there =
    let number : k ≡ n = sym (eqb-true n k is) in
    subst (λ (z : A). P n z) (given_is x y e) (subst (λ (m : ℕ). P m x) number here)
test_by n k false x y others P is e here there = there e

pub test : {A : Type 0} (n k : ℕ) (x y : A) (others : Option A) (P : ℕ → A → Type 0) → cond (eqb n k) (Some x) others ≡ Some y → P k x → (others ≡ Some y → P n y) → P n y
test n k x y others P e here there = test_by n k (eqb n k) x y others P refl e here there

end_is : {A : Type 0} (b : Bool) (y : A × Reading) (x : A) → eqb (length y.1.rest) 0 ≡ b → cond b (Some y.0) None ≡ Some x → (y.0 ≡ x) × (y.1.rest ≡ [])
end_is true y x is e = (given_is y.0 x e, nil_from_length y.1.rest (eqb-true _ _ is))
end_is false y x is e = absurd cc

pub whole_is : {A : Type 0} (there : Option (A × Reading)) (x : A) → whole there ≡ Some x → (behind : Reading) × (there ≡ Some (x, behind)) × (behind.rest ≡ [])
whole_is None x e = absurd cc
whole_is {A = A} (Some y) x e =
    let ended = end_is (eqb (length y.1.rest) 0) y x refl e in
    (y.1, ap (λ (z : A). Some (z, y.1)) ended.0, ended.1)
