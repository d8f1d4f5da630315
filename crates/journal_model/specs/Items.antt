-- The items of a server's journal: what is kept of each step (own).
use Rattle.std.specs.Prelude.{ℕ, zero, suc, ◌+◌, ◌*◌, ◌/◌, ◌%◌, ◌==◌, Bool, true, false, if◌then◌else◌, List, [], ◌∷◌, length, sum_by}
use Rattle.ubik_calls.specs.declared.replies.Reply.{Reply}
use Rattle.ubik_calls.specs.declared.replies.Reply.TheVariants as reply
use Rattle.ubik_calls.specs.Length.{packet_length}
use Rattle.cell_model.specs.declared.events.NodeEvent.{NodeEvent}
use Rattle.cell_model.specs.declared.events.NodeEvent.TheVariants as event
use Rattle.cell_model.specs.declared.events.Output.{Output}
use Rattle.cell_model.specs.declared.events.Output.TheVariants as output
use Rattle.cell_model.specs.Evaluating.{Told}

-- One step of a server: when it was made, and of what event; which of its replies are for want of memory, bit i of a number standing for
-- the i-th of them from 0 on; and whether the server is halted behind it. It also has what was evaluated: that tells of something only where
-- the image holds no state of the database, and a call may come to anything. No image that a cell made is such.
pub record JournalItem : Type 0 where
  pub now : ℕ
  pub event : NodeEvent
  pub short : ℕ
  pub halted : Bool
  pub evaluations : Told

-- how many bytes of a journal an item with this event counts for: 32, and those of the packet's frame or of the call
abbrev pub weight : NodeEvent → ℕ
weight (event.Packet p) = 32 + packet_length p
weight event.BeaconTurn = 32
weight event.RecoverTurn = 32
weight (event.Ask id call) = 32 + length call

abbrev pub bytes_of : List JournalItem → ℕ
bytes_of items = sum_by (λ (i : JournalItem). weight i.event) items

-- ---- replies for want of memory

abbrev pub is_short : Reply → Bool
is_short reply.NoMemory = true
is_short _ = false

-- which replies are for want of memory, with those of one output before the later ones
abbrev pub shorts_with : Output → List Bool → List Bool
shorts_with (output.Send p) later = later
shorts_with (output.Reply id r) later = is_short r ∷ later
shorts_with (output.Announce version) later = later

-- so of all replies of a step, in their order
abbrev pub shorts_of : List Output → List Bool
shorts_of [] = []
shorts_of (o ∷ outputs) = shorts_with o (shorts_of outputs)

-- the number whose bits these are, the lowest first
abbrev pub bits : List Bool → ℕ
bits [] = 0
bits (b ∷ bs) = (if b then 1 else 0) + 2 * bits bs

-- the lowest bits of a number, so many of them, the lowest first
abbrev pub bits_in : (count number : ℕ) → List Bool
bits_in zero number = []
bits_in (suc count) number = (number % 2 == 1) ∷ bits_in count (number / 2)

-- The choices of the step that an item is of: which of its calls found no memory. A step has at most 66 replies; there is room for 128.
abbrev pub choices_of : JournalItem → List Bool
choices_of item = bits_in 128 item.short
