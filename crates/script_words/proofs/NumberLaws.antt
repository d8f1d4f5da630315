-- A number is read from its decimal text alone.
use Rattle.std.proofs.Common.{◌≡◌, ℕ, zero, suc, ◌<◌, ◌^◌, Bool, true, false, not, eqb, ltb, cond, List, [], ◌∷◌, length, get_or, Option, Some, None, refl, ap, sym, ◌∙◌, arith}
use Rattle.std.specs.Char.{is_ascii_digit}
use Rattle.std.specs.Fmt.{decimal}
use Rattle.std.specs.List.{list_all}
use Rattle.std.specs.Str.Parse.{digits_value}
use Rattle.std.proofs.lemmas.Bool.{and_from, and_parts, cond_below, ne_eqb, ltb-true}
use Rattle.std.proofs.lemmas.Bool.Decides.{nat_tests}
use Rattle.std.proofs.lemmas.Fmt.{decimal-digits_value, decimal_nonempty, digits_decimal, digits_value-decimal, first_decimal, decimal_digit}
use Rattle.std.proofs.lemmas.Option.{cond_some}
use Rattle.script_words.proofs.NumberReading.{digits_model, some_digit, only_digits}
use Rattle.script_words.specs.Numbers.{is_numeral, value_of}
use Rattle.script_words.specs.NumberLaws.{ReadsDecimals, ReadsDecimalsAlone}

-- digits are a numeral where a zero stands first only alone
is_numeral_from : (digits : List ℕ) → 0 < length digits → list_all is_ascii_digit digits ≡ true →
    (get_or digits 0 0 ≡ 48 → length digits ≡ 1) → is_numeral digits ≡ true
is_numeral_from [] some all alone = absurd (omega arith)
is_numeral_from (digit ∷ []) some all alone = (and_parts (is_ascii_digit digit) true all).0
is_numeral_from (first ∷ second ∷ digits) some all alone =
    let other : first ≡ 48 → ⊥ = λ same. let one : length (first ∷ second ∷ digits) ≡ 1 = alone same in omega arith in
    and_from _ _ (ap not (ne_eqb first 48 other)) all

-- and the other way round
zero_alone : (digits : List ℕ) → is_numeral digits ≡ true → get_or digits 0 0 ≡ 48 → length digits ≡ 1
zero_alone [] numeral leading = cc
zero_alone (digit ∷ []) numeral leading = refl
zero_alone (first ∷ second ∷ digits) numeral leading =
    let other : not (eqb first 48) ≡ true = (and_parts (not (eqb first 48)) _ numeral).0 in
    absurd (grind (arith, nat_tests))

first_zero : (n : ℕ) → n < 2 ^ 64 → get_or (decimal n) 0 0 ≡ 48 → length (decimal n) ≡ 1
first_zero zero small first = ap length (decimal_digit 0 (omega arith))
first_zero (suc n) small first =
    let high : 48 < get_or (decimal (suc n)) 0 0 = first_decimal (suc n) (omega arith) small in absurd (omega arith)

is_numeral-decimal : (n : ℕ) → n < 2 ^ 64 → is_numeral (decimal n) ≡ true
is_numeral-decimal n small =
    is_numeral_from (decimal n) (decimal_nonempty n small) (digits_decimal digits_model n small) (first_zero n small)

value_of-decimal : (n : ℕ) → n < 2 ^ 64 → value_of (decimal n) ≡ Some n
value_of-decimal n small =
    let same : digits_value 10 (decimal n) ≡ n = digits_value-decimal digits_model n small in
    let low : digits_value 10 (decimal n) < 2 ^ 64 = omega arith in
    sym (cond_below (digits_value 10 (decimal n)) (2 ^ 64) (Some (digits_value 10 (decimal n))) None low)
    ∙ ap (λ v. Some v) same

pub number_of-decimal : ReadsDecimals
number_of-decimal n small =
    ap (λ (numeral : Bool). cond numeral (value_of (decimal n)) None) (is_numeral-decimal n small) ∙ value_of-decimal n small

when_some : (b : Bool) (o : Option ℕ) (n : ℕ) → cond b o None ≡ Some n → (b ≡ true) × (o ≡ Some n)
when_some true o n same = (refl, same)
when_some false o n same = cc

pub decimal_from_number_of : ReadsDecimalsAlone
decimal_from_number_of word n same =
    let numeral = when_some (is_numeral word) (value_of word) n same in
    let value = cond_some (ltb (digits_value 10 word) (2 ^ 64)) (digits_value 10 word) n numeral.1 in
    let low : digits_value 10 word < 2 ^ 64 = ltb-true (digits_value 10 word) (2 ^ 64) value.0 in
    let text : decimal (digits_value 10 word) ≡ word =
    decimal-digits_value digits_model word (only_digits word numeral.0) (some_digit word numeral.0)
    (zero_alone word numeral.0) low in
    let small : n < 2 ^ 64 = omega (arith, value.1) in
    (small, sym text ∙ ap decimal value.1)
