-- What makes a server of a running cell step, and the event that it brings.
use Rattle.std.specs.Prelude.{ℕ, ◌<◌, ◌≤◌, List, length}
use Rattle.ubik_calls.specs.declared.packets.Packet.{Packet}
use Rattle.disk_base.specs.declared.disks.Disk.{Ghosts}
use Rattle.cell_model.specs.declared.events.NodeEvent.{NodeEvent}
use Rattle.cell_model.specs.declared.events.NodeEvent.TheVariants as event
use Rattle.cell_sites.specs.Calls.{call_under}
use Rattle.cell_sites.specs.Sent.{packet_under}
use Rattle.cell_sites.specs.declared.causes.Cause.{Cause}
use Rattle.cell_sites.specs.declared.causes.Cause.TheVariants as cause
use Rattle.cell_sites.specs.declared.cells.OpenCell.{OpenCell}

-- the packet was sent, and the call was asked
abbrev pub IsCause : List Packet → List (List ℕ) → Cause → Type 0
IsCause sent calls (cause.Packet number) = (0 < number) × (number ≤ length sent)
IsCause sent calls (cause.Call id) = (0 < id) × (id ≤ length calls)
IsCause sent calls _ = Unit {0}

abbrev pub event_by : List Packet → List (List ℕ) → Cause → NodeEvent
event_by sent calls (cause.Packet number) = event.Packet (packet_under sent number)
event_by sent calls (cause.Call id) = event.Ask id (call_under calls id)
event_by sent calls cause.BeaconTurn = event.BeaconTurn
event_by sent calls cause.RecoverTurn = event.RecoverTurn

-- the same in a running cell
abbrev pub IsThere : {D V : Type 0} {g : Ghosts D} → OpenCell D V g → Cause → Type 0
IsThere running cause = IsCause running.packets.sent running.calls cause

abbrev pub event_at : {D V : Type 0} {g : Ghosts D} → OpenCell D V g → Cause → NodeEvent
event_at running cause = event_by running.packets.sent running.calls cause
