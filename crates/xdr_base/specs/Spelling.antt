-- How each item is spelled (RFC 4506).
use Rattle.std.specs.Prelude.{ℕ, ◌+◌, ◌-◌, ◌%◌, ℤ, Bool, List, ◌++◌, length, replicate, if◌then◌else◌}
use Rattle.std.specs.Int.{w32, cast_unsigned, to_be_bytes}

-- a number below 2^32: four bytes, the high one first (section 4.2)
abbrev pub word : ℕ → List ℕ
word n = to_be_bytes w32 n

-- a signed number of 32 bits, as two's complement (section 4.1)
abbrev pub signed : ℤ → List ℕ
signed z = word (cast_unsigned w32 z)

-- a truth value: 0 or 1 (section 4.4)
abbrev pub truth : Bool → List ℕ
truth b = word (if b then 1 else 0)

-- how many zero bytes fill some bytes up to a multiple of four
abbrev pub padding : ℕ → ℕ
padding len = (4 - len % 4) % 4

-- an opaque of variable length: its length, its bytes, and zero bytes up to whole words (section 4.10)
abbrev pub opaque : List ℕ → List ℕ
opaque bytes = word (length bytes) ++ bytes ++ replicate (padding (length bytes)) 0

-- how many bytes the spelling of an opaque has
abbrev pub opaque_len : ℕ → ℕ
opaque_len len = 4 + len + padding len
