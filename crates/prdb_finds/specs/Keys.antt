-- Which chain a name or an id stands in (own).
use Rattle.std.specs.Prelude.{ℕ, ℤ, ◌%◌, List}
use Rattle.db_chains.specs.Keys.{name_key}
use Rattle.prdb_layout.specs.Bytes.{bits}
use Rattle.prdb_finds.specs.Places.{id_place, name_place}

-- an id, with 2 ^ 32 added where it is negative, modulo the number of chains
abbrev pub id_key : ℤ → ℕ
id_key id = bits id % 256

abbrev pub name_chain : List ℕ → ℕ
name_chain name = name_place (name_key name)

abbrev pub id_chain : ℤ → ℕ
id_chain id = id_place (id_key id)
