-- What a journal counts of an event.
use Rattle.std.specs.Prelude.{ℕ, ◌≤◌}
use Rattle.cell_model.specs.declared.events.NodeEvent.{NodeEvent}
use Rattle.cell_model.specs.declared.events.NodeEvent.TheVariants as event
pub use Rattle.journal_model.specs.Items.{weight}

-- how many calls of clients it is
abbrev pub asks_in : NodeEvent → ℕ
asks_in (event.Packet p) = 0
asks_in event.BeaconTurn = 0
asks_in event.RecoverTurn = 0
asks_in (event.Ask id call) = 1

-- No call of fewer than 2^31 bytes weighs more, and no packet that has a spelling.
abbrev pub IsLight : NodeEvent → Type 0
IsLight e = weight e ≤ 2147483680
