-- The key of a name, by which its chain is found (own).

-- the sum of the bytes of a name, modulo the number of chains
use Rattle.std.specs.Prelude.{ℕ, ◌+◌, ◌*◌, ◌%◌, List, sum}

abbrev pub name_key : List ℕ → ℕ
name_key name = sum name % 256
