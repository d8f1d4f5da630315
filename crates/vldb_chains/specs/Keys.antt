-- Which chain a name or an id stands in, and where it begins in the head (own).
use Rattle.std.specs.Prelude.{ℕ, ◌+◌, ◌*◌, ◌%◌, List}
use Rattle.db_chains.specs.Keys.{name_key}

-- an id, modulo the number of chains
abbrev pub id_key : ℕ → ℕ
id_key id = id % 256

abbrev pub name_chain : List ℕ → ℕ
name_chain name = 1084 + 4 * name_key name

abbrev pub id_chain : ℕ → ℕ
id_chain id = 2108 + 4 * id_key id
