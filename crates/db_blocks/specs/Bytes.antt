-- What stands in a block: words of four bytes, the highest byte first, and fields that zero bytes fill (own).
use Rattle.std.specs.Prelude.{ℕ, ◌-◌, ◌/◌, List, [], ◌∷◌, ◌++◌, length, replicate}
use Rattle.std.specs.List.{flat_map}
use Rattle.std.specs.Int.{w32, byte_at, to_be_bytes}

-- a number as a word
abbrev pub word : ℕ → List ℕ
word n = to_be_bytes w32 n

-- A number in four places, the highest first: the bytes of a word, where it fits one. The first place holds all that is above the other
-- three, so nothing is lost of any number.
abbrev pub number_word : ℕ → List ℕ
number_word n = n / 16777216 ∷ byte_at 2 n ∷ byte_at 1 n ∷ byte_at 0 n ∷ []

-- numbers in four bytes each
unfoldable pub words : List ℕ → List ℕ
words numbers = flat_map word numbers

-- so many zero bytes
unfoldable pub zeros : ℕ → List ℕ
zeros len = replicate len 0

-- bytes in a field of a fixed length, filled with zero bytes
abbrev pub filled : ℕ → List ℕ → List ℕ
filled len bytes = bytes ++ zeros (len - length bytes)
