-- Items and values that are passed over, one after the other, as a loop does.
use Rattle.std.proofs.Common.{◌≡◌, ℕ, suc, ◌-◌, ◌+◌, ◌≤◌, ◌<◌, List, [], ◌∷◌, length, get_or, drop, Option, Some, None, refl, sym, ap, ◌∙◌, arith, add-one, drop-cons, length-drop}
use Rattle.std.proofs.lemmas.List.{nil_from_length}
use Rattle.call_grammar.specs.Items.{Count}
use Rattle.call_grammar.specs.Reading.{◌>>=◌, ItemsOf, items_at, list_at, values_at, rest_of}
use Rattle.call_grammar.proofs.Loop.{uncounted as no_list}

-- what a later step does to the value is not seen in what is left
pub same_rest : {A B S : Type 0} (f : A → B) (read : Option (A × S)) → rest_of (read >>= λ x. Some (f x.0, x.1)) ≡ rest_of read
same_rest f (Some x) = refl
same_rest f None = refl

pub then_rest : {A B C S : Type 0} (first : Option (A × S)) (next : S → Option (B × S)) (f : A → B → C) (left : S) → rest_of first ≡ Some left
    → rest_of (first >>= λ a. next a.1 >>= λ b. Some (f a.0 b.0, b.1)) ≡ rest_of (next left)
then_rest {B = B} {S = S} (Some x) next f left e =
    let same : x.1 ≡ left = cc in
    same_rest (f x.0) (next x.1) ∙ ap (λ (s : S). rest_of (next s)) same
then_rest None next f left e = absurd cc

pub none_rest : {A B C S : Type 0} (first : Option (A × S)) (next : S → Option (B × S)) (f : A → B → C) → rest_of first ≡ None
    → rest_of (first >>= λ a. next a.1 >>= λ b. Some (f a.0 b.0, b.1)) ≡ None
none_rest (Some x) next f e = absurd cc
none_rest None next f e = refl

-- nothing is left where nothing was read
pub no_read : {A S : Type 0} (read : Option (A × S)) → rest_of read ≡ None → read ≡ None
no_read (Some x) e = absurd cc
no_read None e = refl

pub begins : {A S : Type 0} (item_at : ItemsOf S) (most : ℕ) (at : S → Option (A × S)) (from s : S) (count : ℕ) → item_at (Count most) from ≡ Some (count, s)
    → rest_of (items_at at (count - 0) s) ≡ rest_of (list_at item_at most at from)
unfolding list_at
begins item_at most at from s count e =
    let k : count - 0 ≡ count = omega arith in rw (k, e) refl

pub goes_on : {A S : Type 0} (at : S → Option (A × S)) (count i : ℕ) (s after : S) (total : Option S) → i < count → rest_of (at s) ≡ Some after
    → rest_of (items_at at (count - i) s) ≡ total → rest_of (items_at at (count - (i + 1)) after) ≡ total
goes_on {A = A} at count i s after total lt h so_far =
    let k : count - i ≡ suc (count - (i + 1)) = omega arith in
    let one : rest_of (items_at at (count - i) s) ≡ rest_of (items_at at (count - (i + 1)) after) =
    rw k (then_rest (at s) (items_at at (count - (i + 1))) (λ (x : A) (xs : List A). x ∷ xs) after h) in
    sym one ∙ so_far

pub ends : {A S : Type 0} (at : S → Option (A × S)) (count i : ℕ) (s : S) (total : Option S) → i < count → rest_of (at s) ≡ None
    → rest_of (items_at at (count - i) s) ≡ total → total ≡ None
ends {A = A} at count i s total lt h so_far =
    let k : count - i ≡ suc (count - (i + 1)) = omega arith in
    let one : rest_of (items_at at (count - i) s) ≡ None = rw k (none_rest (at s) (items_at at (count - (i + 1))) (λ (x : A) (xs : List A). x ∷ xs) h) in
    sym so_far ∙ one

pub is_done : {A S : Type 0} (at : S → Option (A × S)) (count i : ℕ) (s : S) (total : Option S) → count ≤ i
    → rest_of (items_at at (count - i) s) ≡ total → total ≡ Some s
is_done at count i s total le so_far =
    let k : count - i ≡ 0 = omega arith in
    let one : rest_of (items_at at (count - i) s) ≡ Some s = rw k refl in
    sym so_far ∙ one

-- a count that does not stand there ends the list
pub uncounted : {A S : Type 0} (item_at : ItemsOf S) (most : ℕ) (at : S → Option (A × S)) (from : S) → item_at (Count most) from ≡ None → rest_of (list_at item_at most at from) ≡ None
uncounted item_at most at from h = ap rest_of (no_list item_at most at from h)

-- ---- the values of shapes

pub at_drop : {A : Type 0} (xs : List A) (i : ℕ) (d : A) → i < length xs → drop i xs ≡ get_or xs i d ∷ drop (i + 1) xs
at_drop xs i d lt = rw add-one (drop-cons xs i d lt)

pub values_go_on : {U S : Type 0} (value_of : U → Type 0) (at : (shape : U) → S → Option (value_of shape × S)) (shapes : List U) (i : ℕ) (shape : U) (s after : S) (total : Option S)
    → drop i shapes ≡ shape ∷ drop (i + 1) shapes → rest_of (at shape s) ≡ Some after → rest_of (values_at value_of at (drop i shapes) s) ≡ total
    → rest_of (values_at value_of at (drop (i + 1) shapes) after) ≡ total
values_go_on {U = U} value_of at shapes i shape s after total split h so_far =
    let one : rest_of (values_at value_of at (shape ∷ drop (i + 1) shapes) s) ≡ rest_of (values_at value_of at (drop (i + 1) shapes) after) =
    then_rest (at shape s) (values_at value_of at (drop (i + 1) shapes)) (λ v w. (v, w)) after h in
    sym one ∙ ap (λ (l : List U). rest_of (values_at value_of at l s)) (sym split) ∙ so_far

pub values_end : {U S : Type 0} (value_of : U → Type 0) (at : (shape : U) → S → Option (value_of shape × S)) (shapes : List U) (i : ℕ) (shape : U) (s : S) (total : Option S)
    → drop i shapes ≡ shape ∷ drop (i + 1) shapes → rest_of (at shape s) ≡ None → rest_of (values_at value_of at (drop i shapes) s) ≡ total → total ≡ None
values_end {U = U} value_of at shapes i shape s total split h so_far =
    let one : rest_of (values_at value_of at (shape ∷ drop (i + 1) shapes) s) ≡ None =
    none_rest (at shape s) (values_at value_of at (drop (i + 1) shapes)) (λ v w. (v, w)) h in
    sym so_far ∙ ap (λ (l : List U). rest_of (values_at value_of at l s)) split ∙ one

pub values_done : {U S : Type 0} (value_of : U → Type 0) (at : (shape : U) → S → Option (value_of shape × S)) (shapes : List U) (i : ℕ) (s : S) (total : Option S)
    → length shapes ≤ i → rest_of (values_at value_of at (drop i shapes) s) ≡ total → total ≡ Some s
values_done {U = U} value_of at shapes i s total le so_far =
    let nothing : drop i shapes ≡ [] = nil_from_length (drop i shapes) (omega (arith, length-drop i shapes)) in
    sym so_far ∙ ap (λ (l : List U). rest_of (values_at value_of at l s)) nothing
