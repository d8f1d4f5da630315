-- What was read from words is bounded, and has its bits.
use Rattle.std.proofs.Common.{◌≡◌, ℕ, ℤ, zero, suc, ◌^◌, ◌<◌, ◌≤◌, Bool, true, false, cond, eqb, leb, ◌&&◌, List, [], ◌∷◌, length, Option, Some, None, refl, ap, subst, arith}
use Rattle.std.specs.Int.{w32}
use Rattle.std.specs.List.{AllByRecursion}
use Rattle.std.specs.Option.{option_map}
use Rattle.std.specs.Prelude.{pos, neg_ℤ, FitsSigned}
use Rattle.std.proofs.lemmas.Bool.{leb-true}
use Rattle.std.proofs.lemmas.Int.{ints}
use Rattle.script_words.specs.Numbers.{number_of, number_within, negated, signed_of}
use Rattle.call_grammar.specs.Items.{Number, Signed, Truth, Text, Count, Item, value, IsText, IsBounded, HasItsBits}
use Rattle.call_grammar.specs.Reading.{◌>>=◌, items_at, list_at, values, values_at, AllValues}
use Rattle.call_grammar.specs.Words.{unquoted, text_of_word, first_word, one_at, word_item, last_of}
use Rattle.call_grammar.proofs.Taken.{bind_some, given, given_is}

option_is : {A : Type 0} (b : Bool) (x y : A) → cond b (Some x) None ≡ given y → (b ≡ true) × (x ≡ y)
option_is true x y e = (refl, given_is x y e)
option_is false x y e = absurd cc

both_true : (a b : Bool) → (a && b) ≡ true → (a ≡ true) × (b ≡ true)
both_true true b e = (refl, e)
both_true false b e = absurd cc

within : (least most : ℕ) (word : List ℕ) (n : ℕ) → number_within least most word ≡ Some n → n ≤ most
within least most word n e =
    let m = bind_some (number_of word) (λ k. cond (leb least k && leb k most) (Some k) None) n e in
    let test = option_is (leb least m.0 && leb m.0 most) m.0 n m.2 in
    let le : m.0 ≤ most = leb-true _ _ (both_true (leb least m.0) (leb m.0 most) test.0).1 in
    subst (λ (k : ℕ). k ≤ most) test.1 le

text_is_short : (word text : List ℕ) → text_of_word word ≡ Some text → IsText text
unfolding text_of_word
text_is_short word text e =
    let m = bind_some (unquoted word) (λ t. cond (leb (length t) 255) (Some t) None) text e in
    let test = option_is (leb (length m.0) 255) m.0 text m.2 in
    subst (λ (t : List ℕ). length t ≤ 255) test.1 (leb-true _ _ test.0)

one_is : {A : Type 0} (of_word : List ℕ → Option A) (P : A → Type 0) → ((word : List ℕ) (x : A) → of_word word ≡ Some x → P x)
    → (words : List (List ℕ)) (x : A × List (List ℕ)) → one_at of_word words ≡ Some x → P x.0
unfolding one_at
one_is {A = A} of_word P each words x e =
    let w = bind_some (first_word words) (λ first. of_word first.0 >>= λ y. Some (y, first.1)) x e in
    let y = bind_some (of_word w.0.0) (λ y. Some (y, w.0.1)) x w.2 in
    subst (λ (z : A × List (List ℕ)). P z.0) (given_is (y.0, w.0.1) x y.2) (each w.0.0 y.0 y.1)

-- each item of words is bounded
pub item_is_bounded : (i : Item) (words : List (List ℕ)) (x : value i × List (List ℕ)) → word_item i words ≡ Some x → IsBounded i x.0
item_is_bounded Number words x e = tt
item_is_bounded Signed words x e = tt
item_is_bounded Truth words x e = tt
item_is_bounded Text words x e = one_is text_of_word IsText text_is_short words x e
item_is_bounded (Count most) words x e = one_is (number_within 0 most) (λ n. n ≤ most) (within 0 most) words x e

-- ---- the bits of a number with a sign

map_is : {A B : Type 0} (f : A → B) (o : Option A) (y : B) → option_map f o ≡ Some y → (x : A) × (o ≡ Some x) × (f x ≡ y)
map_is f None y e = absurd cc
map_is f (Some x) y e = (x, refl, given_is (f x) y e)

neg_fits : (n : ℕ) → n ≤ 2147483648 → FitsSigned w32 (neg_ℤ (pos n))
neg_fits zero le = record { sfits = omega (arith, ints) }
neg_fits (suc n) le = record { sfits = omega (arith, ints) }

signed_by : (b : Bool) (digits word : List ℕ) (z : ℤ)
    → cond b (negated digits) (option_map pos (number_within 0 2147483647 word)) ≡ Some z → FitsSigned w32 z
signed_by true digits word z e =
    let n = map_is (λ (n : ℕ). neg_ℤ (pos n)) (number_within 1 2147483648 digits) z e in
    subst (λ (y : ℤ). FitsSigned w32 y) n.2 (neg_fits n.0 (within 1 2147483648 digits n.0 n.1))
signed_by false digits word z e =
    let n = map_is pos (number_within 0 2147483647 word) z e in
    let le = within 0 2147483647 word n.0 n.1 in
    subst (λ (y : ℤ). FitsSigned w32 y) n.2 (record { sfits = omega (arith, ints, le) })

signed_fits : (word : List ℕ) (z : ℤ) → signed_of word ≡ Some z → FitsSigned w32 z
signed_fits [] z e = absurd cc
signed_fits (first ∷ digits) z e = signed_by (eqb first 45) digits (first ∷ digits) z e

-- each item of words has its bits
pub item_has_bits : (i : Item) (words : List (List ℕ)) (x : value i × List (List ℕ)) → word_item i words ≡ Some x → HasItsBits i x.0
item_has_bits Number words x e =
    one_is (number_within 0 4294967295) (λ n. n < 2 ^ 32) (λ word n e. let le = within 0 4294967295 word n e in omega (arith, le)) words x e
item_has_bits Signed words x e = one_is signed_of (FitsSigned w32) signed_fits words x e
item_has_bits Truth words x e = tt
item_has_bits Text words x e = tt
item_has_bits (Count most) words x e = tt

-- ---- lists and values

-- so many items, and each of them so
items_are : {A S : Type 0} (at : S → Option (A × S)) (P : A → Type 0) → ((s : S) (x : A × S) → at s ≡ Some x → P x.0)
    → (n : ℕ) (s : S) (x : List A × S) → items_at at n s ≡ Some x → (length x.0 ≡ n) × AllByRecursion P x.0
items_are {A = A} {S = S} at P each zero s x e = subst (λ (y : List A × S). (length y.0 ≡ 0) × AllByRecursion P y.0) (given_is ([], s) x e) (refl, tt)
items_are {A = A} {S = S} at P each (suc n) s x e =
    let a = bind_some (at s) (λ first. items_at at n first.1 >>= λ others. Some (first.0 ∷ others.0, others.1)) x e in
    let b = bind_some (items_at at n a.0.1) (λ others. Some (a.0.0 ∷ others.0, others.1)) x a.2 in
    let others = items_are at P each n a.0.1 b.0 b.1 in
    subst (λ (y : List A × S). (length y.0 ≡ suc n) × AllByRecursion P y.0) (given_is (a.0.0 ∷ b.0.0, b.0.1) x b.2) (ap suc others.0, (each s a.0 a.1, others.1))

pub list_is : {A : Type 0} (most : ℕ) (at : List (List ℕ) → Option (A × List (List ℕ))) (P : A → Type 0) → ((words : List (List ℕ)) (x : A × List (List ℕ)) → at words ≡ Some x → P x.0)
    → (words : List (List ℕ)) (x : List A × List (List ℕ)) → list_at word_item most at words ≡ Some x → (length x.0 ≤ most) × AllByRecursion P x.0
unfolding list_at
list_is most at P each words x e =
    let count = bind_some (word_item (Count most) words) (λ count. items_at at count.0 count.1) x e in
    let le : count.0.0 ≤ most = item_is_bounded (Count most) words count.0 count.1 in
    let items = items_are at P each count.0.0 count.0.1 x count.2 in
    (omega (arith, items.0, le), items.1)

pub values_are : {U S : Type 0} (value_of : U → Type 0) (at : (shape : U) → S → Option (value_of shape × S)) (P : (shape : U) → value_of shape → Type 0)
    → ((shape : U) (s : S) (x : value_of shape × S) → at shape s ≡ Some x → P shape x.0)
    → (shapes : List U) (s : S) (x : values value_of shapes × S) → values_at value_of at shapes s ≡ Some x → AllValues value_of P shapes x.0
values_are {S = S} value_of at P each [] s x e = tt
values_are {S = S} value_of at P each (shape ∷ shapes) s x e =
    let a = bind_some (at shape s) (λ first. values_at value_of at shapes first.1 >>= λ others. Some ((first.0, others.0), others.1)) x e in
    let b = bind_some (values_at value_of at shapes a.0.1) (λ others. Some ((a.0.0, others.0), others.1)) x a.2 in
    subst (λ (y : values value_of (shape ∷ shapes) × S). AllValues value_of P (shape ∷ shapes) y.0) (given_is ((a.0.0, b.0.0), b.0.1) x b.2)
    (each shape s a.0 a.1, values_are value_of at P each shapes a.0.1 b.0 b.1)

pub last_is : {A : Type 0} (there : Option (A × List (List ℕ))) (x : A) → last_of there ≡ Some x → (words : List (List ℕ)) × (there ≡ Some (x, words))
last_is None x e = absurd cc
last_is {A = A} (Some y) x e =
    let test = option_is (eqb (length y.1) 0) y.0 x e in
    (y.1, ap (λ (z : A). Some (z, y.1)) test.1)
