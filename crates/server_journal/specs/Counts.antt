-- How much a journal has, and when that is too much.
use Rattle.std.specs.Prelude.{◌≡◌, ℕ, ◌+◌, ◌||◌, Bool, true, false, nat_lt, nat_le, List, length, sum_by}
use Rattle.std.specs.List.{list_all}
use Rattle.cell_model.specs.declared.events.NodeEvent.{NodeEvent}
use Rattle.server_journal.specs.declared.items.JournalItem.{JournalItem}
use Rattle.server_journal.specs.declared.counts.Counts.{Counts}
use Rattle.server_journal.specs.declared.counts.Limits.{Limits}
use Rattle.server_journal.specs.declared.counts.Full.{Full}
use Rattle.server_journal.specs.declared.counts.Full.TheVariants.{Limit, NoMemory}
use Rattle.server_journal.specs.Weight.{weight, asks_in}

abbrev pub bytes_of : List JournalItem → ℕ
bytes_of items = sum_by (λ (i : JournalItem). weight i.event) items

abbrev pub asks_of : List JournalItem → ℕ
asks_of items = sum_by (λ (i : JournalItem). asks_in i.event) items

abbrev pub counts_of : List JournalItem → Counts
counts_of items = record { entries = length items; bytes = bytes_of items; asks = asks_of items }

-- the counts with one event more
abbrev pub with_event : Counts → NodeEvent → Counts
with_event n event = record { entries = n.entries + 1; bytes = n.bytes + weight event; asks = n.asks + asks_in event }

-- More entries or bytes than the limits allow, or more calls than there are ids, which have 32 bits and begin with 1.
abbrev pub is_past : Limits → Counts → Bool
is_past limits n = nat_lt limits.entries n.entries || nat_lt limits.bytes n.bytes || nat_lt 4294967295 n.asks

-- Why no item with this event is taken, beside so much: it would go past a limit; or it would not, and memory ran out.
abbrev pub IsCause : Limits → Counts → NodeEvent → Full → Type 0
IsCause limits n event (Limit entries bytes) =
    let m = with_event n event in (is_past limits m ≡ true) × (entries ≡ m.entries) × (bytes ≡ m.bytes)
IsCause limits n event NoMemory = is_past limits (with_event n event) ≡ false

-- each item is light
abbrev pub are_light : List JournalItem → Bool
are_light items = list_all (λ (i : JournalItem). nat_le (weight i.event) 2147483680) items
