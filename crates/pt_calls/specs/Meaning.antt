-- The ids that names are translated to (ptserver).
use Rattle.std.specs.Prelude.{ℕ, ℤ, pos, negsuc, Bool, false, unwrap_or, List, ◌++◌, map, Option, Some, None}
use Rattle.std.specs.List.{find, range_with_len}
use Rattle.std.specs.Str.{bytes_eq}
use Rattle.prdb_layout.specs.Names.{lowered}
use Rattle.prdb_layout.specs.Registry.{Registry}
use Rattle.prdb_layout.specs.State.{PrEntry, anonymous}

-- the ids up to a number: the users', and the groups'
unfoldable pub ids_to : ℕ → List ℤ
ids_to most = map pos (range_with_len 1 most) ++ map negsuc (range_with_len 0 most)

abbrev pub is_named : List ℕ → Option PrEntry → Bool
is_named name None = false
is_named name (Some e) = bytes_eq e.name name

-- the id of the entry that has a name
unfoldable pub id_named : Registry → List ℕ → Option ℤ
id_named r name = find (λ id. is_named name (r.entry id)) (ids_to 2147483647)

-- the id that a name is translated to: that of `anonymous` where no entry has it
abbrev pub id_or_anonymous : Registry → List ℕ → ℤ
id_or_anonymous r name = unwrap_or (id_named r (lowered name)) anonymous
