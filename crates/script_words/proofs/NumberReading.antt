-- What `from_utf8` and `parse` say of the digits of a number.
use Rattle.std.proofs.Common.{◌≡◌, ℕ, ◌<◌, ◌^◌, true, not, eqb, List, [], ◌∷◌, length, Some, None, Result, Ok, Err, refl, ap, sym, ◌∙◌, Bor, rules, arith}
use Rattle.std.specs.Char.{is_ascii_digit}
use Rattle.std.specs.List.{list_all}
use Rattle.std.specs.Result.{OkIff, MatchResult, result_ok}
use Rattle.std.specs.Str.{IsUtf8}
use Rattle.std.specs.Str.Parse.{ParsesUnsigned, digits_value}
use Rattle.std.proofs.lemmas.Bool.{and_parts, and_from, cond_below, cond_above}
use Rattle.std.proofs.lemmas.Bool.Decides.{nat_tests}
use Rattle.std.proofs.lemmas.List.Sums.{AllPass-from_list_all}
use Rattle.std.proofs.lemmas.List.Elements.{All-weaker}
use Rattle.std.proofs.lemmas.Str.{IsUtf8-from_ascii}
use Rattle.std.proofs.lemmas.Str.Ascii.{IsAscii-from_all}
use Rattle.std.proofs.lemmas.Str.Parse.{IsNumeralModel, numerals_by_value, parse_digits}
use Rattle.script_words.specs.Numbers.{is_numeral, value_of}

-- a numeral has a digit
pub some_digit : (digits : List ℕ) → is_numeral digits ≡ true → 0 < length digits
some_digit [] numeral = cc
some_digit (digit ∷ digits) numeral = omega arith

-- and only digits
pub only_digits : (digits : List ℕ) → is_numeral digits ≡ true → list_all is_ascii_digit digits ≡ true
only_digits [] numeral = refl
only_digits (digit ∷ []) numeral = and_from (is_ascii_digit digit) true numeral refl
only_digits (first ∷ second ∷ digits) numeral = (and_parts (not (eqb first 48)) (list_all is_ascii_digit (first ∷ second ∷ digits)) numeral).1

pub digits_model : IsNumeralModel (λ ds. list_all is_ascii_digit ds ≡ true) (digits_value 10)
digits_model = numerals_by_value _ (search rules)

-- a digit is an ASCII byte
digit_below : (b : ℕ) → is_ascii_digit b ≡ true → b < 128
digit_below b digit = grind (arith, nat_tests)

IsUtf8-numeral : (digits : List ℕ) → is_numeral digits ≡ true → IsUtf8 digits
IsUtf8-numeral digits numeral =
    IsUtf8-from_ascii digits (IsAscii-from_all digits
    (All-weaker (λ b. is_ascii_digit b ≡ true) (λ b. b < 128) digit_below digits
    (AllPass-from_list_all is_ascii_digit digits (only_digits digits numeral))))

-- the text of a numeral is not refused
pub numeral_is_text : {T E : Type 0} (P : T → Type 0) (Q : E → Type 0) (r : Result T E) (digits : List ℕ) →
    is_numeral digits ≡ true → MatchResult r P (λ e. (IsUtf8 digits → ⊥) × Q e) → result_ok r ≡ None → ⊥
numeral_is_text P Q (Ok x) digits numeral says none = cc
numeral_is_text P Q (Err e) digits numeral says none = says.0 (IsUtf8-numeral digits numeral)

value_by : {E : Type 0} (r : Result ℕ E) (digits : List ℕ) → 0 < length digits →
    OkIff r ((0 < length digits) × (digits_value 10 digits < 2 ^ 64)) (digits_value 10 digits) → result_ok r ≡ value_of digits
value_by (Ok n) digits some says =
    ap (λ v. Some v) says.1 ∙ cond_below (digits_value 10 digits) (2 ^ 64) (Some (digits_value 10 digits)) None says.0.1
value_by (Err e) digits some says =
    let high : digits_value 10 digits < 2 ^ 64 → ⊥ = λ low. says (some, low) in
    cond_above (digits_value 10 digits) (2 ^ 64) (Some (digits_value 10 digits)) None None (omega arith) refl

-- a numeral is read as its value, where it is below 2^64
pub value_of-parse : {E : Type 0} (r : Result ℕ E) (text digits : List ℕ) → text ≡ digits → is_numeral digits ≡ true →
    ParsesUnsigned 64 10 text r → result_ok r ≡ value_of digits
value_of-parse r text digits same numeral parses =
    let own : ParsesUnsigned 64 10 digits r = rw same at parses in
    value_by r digits (some_digit digits numeral)
    (parse_digits digits_model 64 digits r own (only_digits digits numeral))

-- the text of bytes has these bytes
pub text_is : {E : Type 0} (U : Type 0) (Q : E → Type 0) (r : Result (Bor (List ℕ)) E) (text : Bor (List ℕ)) (digits : List ℕ) →
    MatchResult r (λ s. (s.now ≡ digits) × U) Q → result_ok r ≡ Some text → text.now ≡ digits
text_is U Q (Ok s) text digits says same = let one : s ≡ text = cc in ap (λ (t : Bor (List ℕ)). t.now) (sym one) ∙ says.0
text_is U Q (Err e) text digits says same = cc
