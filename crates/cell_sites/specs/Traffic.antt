-- The packets of a cell as contracts see them, and what becomes of them.
use Rattle.std.specs.Prelude.{ℕ, ◌-◌, Bool, true, false, Option, Some, None, List, [], ◌∷◌, ◌++◌, length, replicate, set}
use Rattle.ubik_types.specs.declared.hosts.Host.{Host}
use Rattle.ubik_calls.specs.declared.packets.Packet.{Packet}
use Rattle.cell_runs.specs.Script.{dropped_of}

-- all packets that were sent, and of each whether it was handed over or dropped
pub record Traffic : Type 0 where
  pub sent : List Packet
  pub handed : List Bool

abbrev pub no_traffic : Traffic
no_traffic = record { sent = []; handed = [] }

-- one more packet, which waits
abbrev pub sent_more : Traffic → Packet → Traffic
sent_more t p = record { sent = t.sent ++ p ∷ []; handed = t.handed ++ false ∷ [] }

-- one more packet, where there is one
abbrev pub sent_maybe : Traffic → Option Packet → Traffic
sent_maybe t None = t
sent_maybe t (Some p) = sent_more t p

-- more packets, one after the other; all of them wait
abbrev pub sent_all : Traffic → List Packet → Traffic
sent_all t packets = record { sent = t.sent ++ packets; handed = t.handed ++ replicate (length packets) false }

-- the packet of a number waits no longer
abbrev pub handed_over : Traffic → ℕ → Traffic
handed_over t number = record t { handed = set t.handed (number - 1) true }

-- the packets to and from a host wait no longer
abbrev pub dropped_all : Traffic → Host → Traffic
dropped_all t host = record t { handed = dropped_of host t.sent t.handed }
