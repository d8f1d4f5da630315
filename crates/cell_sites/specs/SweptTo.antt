-- How far the packets of each host were dropped.
use Rattle.std.specs.Prelude.{ℕ, ◌==◌, ◌≤◌, Bool, List, All, if◌then◌else◌}
use Rattle.ubik_types.specs.declared.hosts.Host.{Host}
use Rattle.ubik_calls.specs.declared.packets.Packet.{Packet}
use Rattle.cell_sites.specs.declared.packets.Swept.{Swept}
use Rattle.cell_sites.specs.Swept.{HasSwept}

-- for each host, no packet of it below its place waits
abbrev pub AreSwept : List Packet → List Bool → List Swept → Type 0
AreSwept sent handed swept = All (λ (s : Swept). HasSwept sent handed s.host s.below) swept

-- no place is past the end
abbrev pub AreWithin : ℕ → List Swept → Type 0
AreWithin n swept = All (λ (s : Swept). s.below ≤ n) swept

-- after those of one host were dropped
abbrev pub swept_to : Host → ℕ → Swept → Swept
swept_to host end s = record s { below = if s.host.0 == host.0 then end else s.below }
