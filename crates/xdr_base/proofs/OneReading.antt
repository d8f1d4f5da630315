-- No spelling begins another, and a text of changes has one reading.
use Rattle.std.proofs.Common.{◌≡◌, ℕ, ◌^◌, ◌<◌, ◌≤◌, true, false, List, [], ◌∷◌, ◌++◌, length, take, drop, replicate, refl, sym, ap, ◌∙◌, append_assoc, arith}
use Rattle.std.specs.Prelude.{FitsSigned}
use Rattle.std.specs.Int.{w32, cast_unsigned, cast_signed, from_be_bytes}
use Rattle.std.proofs.lemmas.Int.{to_z-of_z, ints}
use Rattle.std.proofs.lemmas.List.{take_at, drop_at, length-append, append_cancel_left}
use Rattle.std.specs.List.{AllByRecursion}
use Rattle.std.proofs.lemmas.List.Concat.{flat_map-cons}
use Rattle.std.proofs.lemmas.Nat.{from_be_bytes-to_be_bytes_4}
use Rattle.ubik_types.specs.declared.images.Change.{Change}
use Rattle.ubik_types.specs.declared.images.Change.TheVariants.{Put, Cut}
use Rattle.xdr_base.specs.Spelling.{word, signed, truth, padding, opaque}
use Rattle.xdr_base.specs.ChangeText.{change_spelling, HasSpelling, text_of}
use Rattle.xdr_base.specs.Laws.{NoneBeginsAnother, IsWord, IsTruth, IsOpaque, HasOneReading}

pub words_differ : NoneBeginsAnother IsWord word
words_differ a b x y p q e =
    let head : word a ≡ word b = sym (take_at (word a) x 4 refl) ∙ ap (take 4) e ∙ take_at (word b) y 4 refl in
    let tail : x ≡ y = sym (drop_at (word a) x 4 refl) ∙ ap (drop 4) e ∙ drop_at (word b) y 4 refl in
    (sym (from_be_bytes-to_be_bytes_4 a p) ∙ ap (from_be_bytes w32) head ∙ from_be_bytes-to_be_bytes_4 b q, tail)

pub counts_differ : (most : ℕ) → most < 2 ^ 32 → NoneBeginsAnother (λ n. n ≤ most) word
counts_differ most lt a b x y p q e = words_differ a b x y (omega arith) (omega arith) e

pub signed_differ : NoneBeginsAnother (FitsSigned w32) signed
signed_differ a b x y p q e =
    let a_below : cast_unsigned w32 a < 2 ^ 32 = omega (arith, ints) in
    let b_below : cast_unsigned w32 b < 2 ^ 32 = omega (arith, ints) in
    let same = words_differ (cast_unsigned w32 a) (cast_unsigned w32 b) x y a_below b_below e in
    (sym (to_z-of_z w32 a p) ∙ ap (cast_signed w32) same.0 ∙ to_z-of_z w32 b q, same.1)

apart : (m n : ℕ) → m ≡ n → m < n → ⊥
apart m n e lt = omega arith

pub truths_differ : NoneBeginsAnother IsTruth truth
truths_differ true true x y p q e = (refl, append_cancel_left (word 1) x y e)
truths_differ false false x y p q e = (refl, append_cancel_left (word 0) x y e)
truths_differ true false x y p q e = absurd (apart 0 1 (sym (words_differ 1 0 x y (omega arith) (omega arith) e).0) (omega arith))
truths_differ false true x y p q e = absurd (apart 0 1 (words_differ 0 1 x y (omega arith) (omega arith) e).0 (omega arith))

regrouped : (bytes x : List ℕ) → opaque bytes ++ x ≡ word (length bytes) ++ (bytes ++ (replicate (padding (length bytes)) 0 ++ x))
regrouped bytes x = append_assoc (word (length bytes) ++ bytes) (replicate (padding (length bytes)) 0) x ∙ append_assoc (word (length bytes)) bytes (replicate (padding (length bytes)) 0 ++ x)

pub opaques_differ : NoneBeginsAnother IsOpaque opaque
opaques_differ a b x y p q e =
    let za : List ℕ = replicate (padding (length a)) 0 in
    let zb : List ℕ = replicate (padding (length b)) 0 in
    let same = words_differ (length a) (length b) (a ++ (za ++ x)) (b ++ (zb ++ y)) p q (sym (regrouped a x) ∙ e ∙ regrouped b y) in
    let bytes : a ≡ b = sym (take_at a (za ++ x) (length a) refl) ∙ ap (take (length a)) same.1 ∙ take_at b (zb ++ y) (length a) (sym same.0) in
    let behind : za ++ x ≡ zb ++ y = sym (drop_at a (za ++ x) (length a) refl) ∙ ap (drop (length a)) same.1 ∙ drop_at b (zb ++ y) (length a) (sym same.0) in
    let zeros : zb ≡ za = ap (λ (n : ℕ). replicate (padding n) 0) (sym same.0) in
    (bytes, append_cancel_left za x y (behind ∙ ap (λ (z : List ℕ). z ++ y) zeros))

put_regrouped : (position : ℕ) (bytes x : List ℕ) → change_spelling (Put position bytes) ++ x ≡ word 1 ++ (word position ++ (opaque bytes ++ x))
put_regrouped position bytes x =
    append_assoc (word 1) (word position ++ opaque bytes) x ∙ ap (λ (t : List ℕ). word 1 ++ t) (append_assoc (word position) (opaque bytes) x)

cut_regrouped : (len : ℕ) (x : List ℕ) → change_spelling (Cut len) ++ x ≡ word 2 ++ (word len ++ x)
cut_regrouped len x = append_assoc (word 2) (word len) x

pub changes_differ : NoneBeginsAnother HasSpelling change_spelling
changes_differ (Put m ms) (Put n bs) x y p q e =
    let first = words_differ 1 1 (word m ++ (opaque ms ++ x)) (word n ++ (opaque bs ++ y)) (omega arith) (omega arith) (sym (put_regrouped m ms x) ∙ e ∙ put_regrouped n bs y) in
    let second = words_differ m n (opaque ms ++ x) (opaque bs ++ y) p.0 q.0 first.1 in
    let third = opaques_differ ms bs x y p.1 q.1 second.1 in
    let position : m ≡ n = second.0 in
    let bytes : ms ≡ bs = third.0 in
    (cc, third.1)
changes_differ (Put m ms) (Cut n) x y p q e =
    let first = words_differ 1 2 (word m ++ (opaque ms ++ x)) (word n ++ y) (omega arith) (omega arith) (sym (put_regrouped m ms x) ∙ e ∙ cut_regrouped n y) in
    absurd (apart 1 2 first.0 (omega arith))
changes_differ (Cut m) (Put n bs) x y p q e =
    let first = words_differ 2 1 (word m ++ x) (word n ++ (opaque bs ++ y)) (omega arith) (omega arith) (sym (cut_regrouped m x) ∙ e ∙ put_regrouped n bs y) in
    absurd (apart 1 2 (sym first.0) (omega arith))
changes_differ (Cut m) (Cut n) x y p q e =
    let first = words_differ 2 2 (word m ++ x) (word n ++ y) (omega arith) (omega arith) (sym (cut_regrouped m x) ∙ e ∙ cut_regrouped n y) in
    let second = words_differ m n x y p q first.1 in
    let len : m ≡ n = second.0 in
    (cc, second.1)

spelling_is_long : (change : Change) → 0 < length (change_spelling change)
spelling_is_long (Put m ms) = omega (arith, length-append (word 1) (word m ++ opaque ms))
spelling_is_long (Cut m) = omega (arith, length-append (word 2) (word m))

text_is_long : (change : Change) (changes : List Change) → [] ≡ text_of (change ∷ changes) → ⊥
text_is_long change changes e =
    omega (arith, ap length (e ∙ flat_map-cons change_spelling change changes), length-append (change_spelling change) (text_of changes), spelling_is_long change)

texts_differ : (a b : List Change) → AllByRecursion HasSpelling a → AllByRecursion HasSpelling b → text_of a ≡ text_of b → a ≡ b
texts_differ [] [] p q e = refl
texts_differ [] (b ∷ bs) p q e = absurd (text_is_long b bs e)
texts_differ (a ∷ cs) [] p q e = absurd (text_is_long a cs (sym e))
texts_differ (a ∷ cs) (b ∷ bs) p q e =
    let heads = sym (flat_map-cons change_spelling a cs) ∙ e ∙ flat_map-cons change_spelling b bs in
    let first = changes_differ a b (text_of cs) (text_of bs) p.0 q.0 heads in
    let head : a ≡ b = first.0 in
    let tail : cs ≡ bs = texts_differ cs bs p.1 q.1 first.1 in
    cc

pub text_has_one_reading : HasOneReading
text_has_one_reading text a b p q = texts_differ a b p.spelled q.spelled (sym p.text_is ∙ q.text_is)
