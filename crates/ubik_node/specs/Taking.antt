-- Which packets are for a server.
use Rattle.std.specs.Prelude.{ℕ, ◌==◌, ◌&&◌, not, Bool, false, Option, Some, None}
use Rattle.ubik_calls.specs.declared.packets.Packet.{Packet}
use Rattle.cell_model.specs.NodeRule.{place_of}
use Rattle.cell_model.specs.Step.{Member, host_at}

-- a place of the cell, which is not this one
abbrev pub is_another : ℕ → Option ℕ → Bool
is_another me None = false
is_another me (Some k) = not (k == me)

-- a packet to this server, from another one of the cell
abbrev pub is_for : Member → Packet → Bool
is_for m p = is_another m.me (place_of m.hosts p.from) && (p.to.0 == (host_at m.hosts m.me).0)
