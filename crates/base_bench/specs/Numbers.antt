-- The numbers that are written and read back.
use Rattle.std.specs.Prelude.{ℕ, zero, suc, ◌+◌, List, [], ◌++◌}
use Rattle.xdr_base.specs.Spelling.{word}

-- so many numbers, each one more than the one before, from one on
unfoldable pub numbers : ℕ → ℕ → List ℕ
numbers first zero = []
numbers first (suc count) = word first ++ numbers (first + 1) count
