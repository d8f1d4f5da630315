-- The packets of a cell, by their numbers.
use Rattle.std.specs.Prelude.{◌≡◌, ℕ, ◌-◌, List, slice_index_or}
use Rattle.ubik_calls.specs.declared.packets.Body.TheVariants as body
use Rattle.ubik_calls.specs.declared.packets.Packet.{Packet}
use Rattle.cell_model.specs.declared.events.NodeEvent.{NodeEvent}
use Rattle.cell_model.specs.declared.events.NodeEvent.TheVariants as event

-- what stands where there is no packet
abbrev pub no_packet : Packet
no_packet = record { from = record { 0 = 0 }; to = record { 0 = 0 }; body = body.GetVersion 0 }

-- the packet that comes in an event
abbrev pub packet_of : NodeEvent → Packet
packet_of (event.Packet p) = p
packet_of _ = no_packet

-- a packet comes in it
abbrev pub BringsPacket : NodeEvent → Type 0
BringsPacket e = e ≡ event.Packet (packet_of e)

-- the packet of a number, which counts from 1
abbrev pub packet_under : List Packet → ℕ → Packet
packet_under sent number = slice_index_or sent (number - 1) no_packet
