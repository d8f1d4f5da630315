-- Numbers that words write.
use Rattle.std.specs.Prelude.{ℕ, ℤ, pos, neg_ℤ, ◌^◌, ◌==◌, ◌&&◌, not, nat_lt, nat_le, Bool, false, if◌then◌else◌, List, [], ◌∷◌, Option, Some, None, option_map, option_and_then}
use Rattle.std.specs.Char.{is_ascii_digit}
use Rattle.std.specs.List.{list_all}
use Rattle.std.specs.Str.Parse.{digits_value}

-- decimal digits, at least one, where a zero stands first only alone
abbrev pub is_numeral : List ℕ → Bool
is_numeral [] = false
is_numeral (digit ∷ []) = is_ascii_digit digit
is_numeral (first ∷ second ∷ digits) = not (first == 48) && list_all is_ascii_digit (first ∷ second ∷ digits)

-- the value of decimal digits, where it is below 2^64
abbrev pub value_of : List ℕ → Option ℕ
value_of digits = if nat_lt (digits_value 10 digits) (2 ^ 64) then Some (digits_value 10 digits) else None

-- the number that a word writes
abbrev pub number_of : List ℕ → Option ℕ
number_of word = if is_numeral word then value_of word else None

-- the number that a word writes, where it is one in this range
abbrev pub number_within : ℕ → ℕ → List ℕ → Option ℕ
number_within low high word =
    option_and_then (λ n. if nat_le low n && nat_le n high then Some n else None) (number_of word)

-- the number below zero that stands behind a minus
abbrev pub negated : List ℕ → Option ℤ
negated digits = option_map (λ n. neg_ℤ (pos n)) (number_within 1 2147483648 digits)

-- the number of 32 bits that a word writes, behind a minus where it is below zero
abbrev pub signed_of : List ℕ → Option ℤ
signed_of [] = None
signed_of (first ∷ digits) =
    if first == 45 then negated digits else option_map pos (number_within 0 2147483647 (first ∷ digits))
