-- The list of pairs that is found of an id.
use Rattle.std.specs.Prelude.{ℤ, ◌≡◌, true, false, Option, Some, None}
use Rattle.entry_scans.specs.Lists.{IsListOf}
use Rattle.prdb_lists.specs.Members.{Members, are_paired}
use Rattle.prdb_lists.specs.declared.listed.Listed.{Listed}

-- the id is in no pair, or this is the list of those that it is paired with
abbrev pub IsFound : Members → ℤ → Option Listed → Type 0
IsFound m id None = (other : ℤ) → are_paired m id other ≡ false
IsFound m id (Some l) = IsListOf (λ other. are_paired m id other ≡ true) l.ids
