-- The protection database that an image tells, whatever it holds.
use Rattle.std.specs.Prelude.{ℕ, List}
use Rattle.prdb_layout.specs.Records.{registry_in}
use Rattle.prdb_finds.specs.Unchained.{unchained}
use Rattle.prdb_scans.specs.Told.{members_in}
use Rattle.pt_service.specs.State.{State}

-- without the words of its chains: the entries, the maxima, and the pairs by the lists of the users
unfoldable pub state_in : List ℕ → State
state_in image = record { registry = registry_in (unchained image); is_in = (members_in (unchained image)).has }
