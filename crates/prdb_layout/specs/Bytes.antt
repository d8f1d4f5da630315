-- Bytes, and signed numbers as they stand in words (RFC 4506).
use Rattle.std.specs.Prelude.{ℕ, ℤ, ◌<◌, List, slice_index}
use Rattle.std.specs.Int.{w32, cast_unsigned}

-- a list of bytes
abbrev pub IsBytes : List ℕ → Type 0
IsBytes bytes = (i : ℕ) → slice_index bytes i < 256

-- a signed number as an unsigned one of the same four bytes, in two's complement
abbrev pub bits : ℤ → ℕ
bits z = cast_unsigned w32 z
