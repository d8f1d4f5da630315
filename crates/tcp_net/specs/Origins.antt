-- Where a connection comes from, and what becomes of its frames by that.
use Rattle.std.specs.Prelude.{◌≡◌, ℕ, ◌/◌, Bool, ◌==◌, ◌&&◌, ◌||◌, List, Option, Some, None, if◌then◌else◌}
use Rattle.std.specs.List.{list_any}
use Rattle.ubik_types.specs.declared.hosts.Host.{Host}
use Rattle.tcp_net.specs.declared.addresses.Addresses.{Addresses}
use Rattle.tcp_net.specs.declared.connections.Connection.{Connection}
use Rattle.tcp_net.specs.declared.connections.Origin.{Origin}
use Rattle.tcp_net.specs.declared.connections.Origin.TheVariants.{Own, Cell, Client}
use Rattle.tcp_net.specs.declared.connections.Served.{Served}
use Rattle.tcp_net.specs.declared.connections.Served.TheVariants as served
use Rattle.tcp_net.specs.Frames.{is_packet}

-- The own address and those of the other servers are of the cell; where the own one is a loopback address, 127.0.0.1 is too.
abbrev pub is_of_cell : Addresses → Host → Bool
is_of_cell addresses host =
    host.0 == addresses.own.0 || list_any (λ peer. peer.0 == host.0) addresses.peers.items
    || (host.0 == 2130706433 && addresses.own.0 / 16777216 == 127)

abbrev pub origin_of : Addresses → Host → Origin
origin_of addresses host = if is_of_cell addresses host then Cell host else Client host

-- where the peer of a connection is, if it was not made here
abbrev pub host_at : Origin → Option Host
host_at Own = None
host_at (Cell host) = Some host
host_at (Client host) = Some host

-- A whole frame is given out, but for a packet from elsewhere than the cell.
abbrev pub handed : Origin → List ℕ → Served
handed (Client host) frame = if is_packet frame then served.Stranger host else served.Frame
handed _ frame = served.Frame

-- A frame that was given out came over a connection, and is no packet from elsewhere than the cell.
abbrev pub IsGivenOut : Option Connection → List ℕ → Type 0
IsGivenOut (Some connection) frame = handed connection.origin frame ≡ served.Frame
IsGivenOut None frame = ⊥
