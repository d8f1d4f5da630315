-- What is found of the groups that an id owns.
use Rattle.std.specs.Prelude.{ℤ, pos, ◌≡◌, ◌&&◌, Bool, true, false, not, is_none, List, Option, Some, None}
use Rattle.std.specs.Ordering.{int_eq}
use Rattle.prdb_layout.specs.Registry.{Registry}
use Rattle.entry_scans.specs.Lists.{IsListOf}
use Rattle.prdb_lists.specs.Members.{IsOwned}

-- neither 0 nor the id of an entry
abbrev pub is_no_owner : Registry → ℤ → Bool
is_no_owner r id = not (int_eq id (pos 0)) && is_none (r.entry id)

-- it is no owner, or this is the ascending list of the groups that it owns; those of the id 0 have no owner
abbrev pub AreOwned : Registry → (owner : ℤ) → Option (List ℤ) → Type 0
AreOwned r owner None = is_no_owner r owner ≡ true
AreOwned r owner (Some ids) = (is_no_owner r owner ≡ false) × IsListOf (IsOwned r owner) ids
