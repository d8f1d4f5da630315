-- What is spelled at a reader's place is what stands there.
use Rattle.std.proofs.Common.{◌≡◌, ℕ, ℤ, ◌^◌, ◌<◌, ◌≤◌, Bool, List, [], ◌∷◌, ◌++◌, length, Option, Some, refl, sym, ap, ◌∙◌, append_assoc, arith}
use Rattle.std.specs.Prelude.{FitsSigned}
use Rattle.std.specs.Int.{w32, cast_unsigned}
use Rattle.std.specs.List.{flat_map, AllByRecursion}
use Rattle.std.proofs.lemmas.List.Concat.{flat_map-cons}
use Rattle.xdr_base.specs.Spelling.{word, signed, truth, opaque, opaque_len}
use Rattle.xdr_base.specs.Reading.{Reading, past}
use Rattle.xdr_base.proofs.ReadBack.{word_again, word_left, signed_again as xdr_signed, truth_again as xdr_truth, count_again, opaque_again, opaque_left}
use Rattle.call_grammar.specs.Items.{Number, Signed, Truth, Text, xdr_text, IsText}
use Rattle.call_grammar.specs.Lists.{listed, spelled}
use Rattle.call_grammar.specs.Reading.{items_at, list_at, values, values_at, AllValues, xdr_item, whole}

-- this stands there, and behind it this
pub record Again {A : Type 0} (there : Option (A × Reading)) (x : A) (after : List ℕ) : Type 0 where
  pub behind : Reading
  pub is : there ≡ Some (x, behind)
  pub rest : behind.rest ≡ after

pub number_again : (n : ℕ) (from : Reading) (after : List ℕ) → n < 2 ^ 32 → from.rest ≡ word n ++ after → Again (xdr_item Number from) n after
number_again n from after lt e = record { behind = past 4 from; is = rw (word_again from n after lt e) refl; rest = word_left from n after e }

pub signed_again : (z : ℤ) (from : Reading) (after : List ℕ) → FitsSigned w32 z → from.rest ≡ signed z ++ after → Again (xdr_item Signed from) z after
signed_again z from after fits e = record { behind = past 4 from; is = rw (xdr_signed from z after fits e) refl; rest = word_left from (cast_unsigned w32 z) after e }

pub truth_again : (b : Bool) (from : Reading) (after : List ℕ) → from.rest ≡ truth b ++ after → Again (xdr_item Truth from) b after
truth_again b from after e = record { behind = past 4 from; is = rw (xdr_truth from b after e) refl; rest = word_left from _ after e }

pub text_again : (text : List ℕ) (from : Reading) (after : List ℕ) → IsText text → from.rest ≡ opaque text ++ after → Again (xdr_item Text from) text after
text_again text from after le e =
    record { behind = past (opaque_len (length text)) from; is = rw (opaque_again 255 from text after (omega arith) le e) refl; rest = opaque_left from text after e }

items_again : {A : Type 0} (at : Reading → Option (A × Reading)) (spell : A → List ℕ) (P : A → Type 0)
    → ((x : A) (from : Reading) (after : List ℕ) → P x → from.rest ≡ spell x ++ after → Again (at from) x after)
    → (xs : List A) (from : Reading) (after : List ℕ) → AllByRecursion P xs → from.rest ≡ flat_map spell xs ++ after → Again (items_at at (length xs) from) xs after
items_again at spell P each [] from after fits e = record { behind = from; is = refl; rest = e }
items_again at spell P each (x ∷ xs) from after fits e =
    let grouped : from.rest ≡ spell x ++ (flat_map spell xs ++ after) = e ∙ ap (λ (t : List ℕ). t ++ after) (flat_map-cons spell x xs) ∙ append_assoc (spell x) (flat_map spell xs) after in
    let first = each x from (flat_map spell xs ++ after) fits.0 grouped in
    let others = items_again at spell P each xs first.behind after fits.1 first.rest in
    record { behind = others.behind; is = rw (first.is, others.is) refl; rest = others.rest }

pub list_again : {A : Type 0} (most : ℕ) → most < 2 ^ 32 → (at : Reading → Option (A × Reading)) (spell : A → List ℕ) (P : A → Type 0)
    → ((x : A) (from : Reading) (after : List ℕ) → P x → from.rest ≡ spell x ++ after → Again (at from) x after)
    → (xs : List A) (from : Reading) (after : List ℕ) → length xs ≤ most → AllByRecursion P xs → from.rest ≡ listed xdr_text spell xs ++ after → Again (list_at xdr_item most at from) xs after
unfolding list_at
list_again most small at spell P each xs from after le fits e =
    let grouped : from.rest ≡ word (length xs) ++ (flat_map spell xs ++ after) = e ∙ append_assoc (word (length xs)) (flat_map spell xs) after in
    let items = items_again at spell P each xs (past 4 from) after fits (word_left from (length xs) (flat_map spell xs ++ after) grouped) in
    record { behind = items.behind; is = rw (count_again most from (length xs) (flat_map spell xs ++ after) small le grouped, items.is) refl; rest = items.rest }

pub values_again : {U : Type 0} (value_of : U → Type 0) (at : (shape : U) → Reading → Option (value_of shape × Reading)) (spell : (shape : U) → value_of shape → List ℕ) (P Q : (shape : U) → value_of shape → Type 0)
    → ((shape : U) (v : value_of shape) (from : Reading) (after : List ℕ) → P shape v → Q shape v → from.rest ≡ spell shape v ++ after → Again (at shape from) v after)
    → (shapes : List U) (v : values value_of shapes) (from : Reading) (after : List ℕ) → AllValues value_of P shapes v → AllValues value_of Q shapes v → from.rest ≡ spelled value_of spell shapes v ++ after
    → Again (values_at value_of at shapes from) v after
values_again value_of at spell P Q each [] v from after p q e = record { behind = from; is = refl; rest = e }
values_again value_of at spell P Q each (shape ∷ shapes) v from after p q e =
    let first = each shape v.0 from (spelled value_of spell shapes v.1 ++ after) p.0 q.0 (e ∙ append_assoc (spell shape v.0) (spelled value_of spell shapes v.1) after) in
    let others = values_again value_of at spell P Q each shapes v.1 first.behind after p.1 q.1 first.rest in
    record { behind = others.behind; is = rw (first.is, others.is) refl; rest = others.rest }

pub ended : {A : Type 0} (there : Option (A × Reading)) (x : A) → Again there x [] → whole there ≡ Some x
ended there x again = rw (again.is, again.rest) refl

some_is : {A : Type 0} (x y : A) (there : Option A) → there ≡ Some x → there ≡ Some y → x ≡ y
some_is {A = A} x y there e f =
    let both : ◌≡◌ {A = Option A} (Some x) (Some y) = sym e ∙ f in cc

-- what begins with the spellings of two values
pub none_begins : {A : Type 0} (read : Reading → Option (A × Reading)) (from : Reading) (c d : A) (x y : List ℕ) → Again (read from) c x → Again (read from) d y → (c ≡ d) × (x ≡ y)
none_begins {A = A} read from c d x y one two =
    let same = some_is (c, one.behind) (d, two.behind) (read from) one.is two.is in
    (ap (λ (p : A × Reading). p.0) same, sym one.rest ∙ ap (λ (p : A × Reading). p.1.rest) same ∙ two.rest)
