-- Which events a node takes today, and which of them take memory.
pub use Rattle.server_rules.specs.Packets.{BodyTakesNoMemory, IsBuiltBody}
use Rattle.cell_model.specs.declared.events.NodeEvent.{NodeEvent}
use Rattle.cell_model.specs.declared.events.NodeEvent.TheVariants as event

-- The event may come: a packet has a spelling, as far as that matters here.
abbrev pub IsBuilt : NodeEvent → Type 0
IsBuilt (event.Packet p) = IsBuiltBody p.body
IsBuilt _ = Unit {0}

-- A step with this event never ends for want of memory. A call that finds none is answered so.
abbrev pub TakesNoMemory : NodeEvent → Type 0
TakesNoMemory (event.Packet p) = BodyTakesNoMemory p.body
TakesNoMemory event.BeaconTurn = Unit {0}
TakesNoMemory event.RecoverTurn = ⊥
TakesNoMemory (event.Ask id call) = Unit {0}
