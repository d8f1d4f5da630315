-- Laws of the numbers that words write.
use Rattle.std.specs.Prelude.{◌≡◌, ℕ, ◌^◌, ◌<◌, List, Some}
use Rattle.std.specs.Fmt.{decimal}
use Rattle.script_words.specs.Numbers.{number_of}

-- the decimal text of each number below 2^64 is read as that number
abbrev pub ReadsDecimals : Type 0
ReadsDecimals = (n : ℕ) → n < 2 ^ 64 → number_of (decimal n) ≡ Some n

-- and no other word is
abbrev pub ReadsDecimalsAlone : Type 0
ReadsDecimalsAlone = (word : List ℕ) (n : ℕ) → number_of word ≡ Some n → (n < 2 ^ 64) × (word ≡ decimal n)
