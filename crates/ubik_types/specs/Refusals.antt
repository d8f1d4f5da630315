-- Why a list of hosts makes no cell.
use Rattle.std.specs.Prelude.{◌≡◌, ◌<◌, ◌≤◌, List, [], length}
use Rattle.ubik_types.specs.declared.hosts.Host.{Host}
use Rattle.ubik_types.specs.declared.hosts.CellFault.{CellFault}
use Rattle.ubik_types.specs.declared.hosts.CellFault.TheVariants.{Empty, TooMany, Repeated, NoMemory}
use Rattle.ubik_types.specs.declared.limits.TheConstants.{MAXSERVERS}
use Rattle.ubik_types.specs.Hosts.{IsLowestRepeated}

-- 1 to 20 hosts, repeated or not
abbrev pub HasFittingLength : List Host → Type 0
HasFittingLength hosts = (0 < length hosts) × (length hosts ≤ MAXSERVERS)

-- the list may be refused with this fault; where memory suffices, each list has one fault or makes a cell
abbrev pub Refuses : List Host → CellFault → Type 0
Refuses hosts Empty = hosts ≡ []
Refuses hosts (TooMany count) = (MAXSERVERS < length hosts) × (count ≡ length hosts)
Refuses hosts (Repeated host) = HasFittingLength hosts × IsLowestRepeated hosts host
Refuses hosts NoMemory = HasFittingLength hosts
