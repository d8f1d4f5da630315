-- The items of a journal, as a server keeps them.
use Rattle.std.specs.Prelude.{ℕ, ◌%◌, ◌^◌, Bool, List}
use Rattle.cell_model.specs.declared.events.NodeEvent.{NodeEvent}
use Rattle.cell_model.specs.declared.events.Output.{Output}
use Rattle.journal_model.specs.Items as model
pub use Rattle.journal_model.specs.Items.{bits, is_short, shorts_of, shorts_with}
use Rattle.server_journal.specs.declared.items.JournalItem.{JournalItem}

-- Bit i says that the i-th reply, counted from 0, is for want of memory. A step gives at most 66; there is room for 128.
abbrev pub short_of : List Output → ℕ
short_of outputs = bits (shorts_of outputs) % 2 ^ 128

-- what is kept of a step at a moment, which put this out and left the server halted or not
abbrev pub item_of : ℕ → NodeEvent → List Output → Bool → JournalItem
item_of now event outputs halted = record { now = now; event = event; short = short_of outputs; halted = halted }

-- an item of the model without what was evaluated in its step
abbrev pub untold : model.JournalItem → JournalItem
untold i = record { now = i.now; event = i.event; short = i.short; halted = i.halted }
