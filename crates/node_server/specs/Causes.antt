-- What shows at its end why a server has ended: its journal that is full, its disk that has failed (own).
use Rattle.std.specs.Prelude.{◌≡◌, ◌<◌, ◌≤◌, ◌⊎◌, ℕ, ◌+◌, ◌-◌, ◌&&◌, nat_lt, nat_le, Bool, true, List, length, take}
use Rattle.server_rounds.specs.declared.turns.TurnEnd.{TurnEnd}
use Rattle.server_rounds.specs.declared.turns.TurnEnd.TheVariants as end
use Rattle.server_journal.specs.Counts.{asks_of, bytes_of, is_past}
use Rattle.server_journal.specs.declared.counts.Limits.{Limits}
use Rattle.server_journal.specs.declared.items.JournalItem.{JournalItem}

-- The journal was full: behind so many of its items, or all of them, one more would have gone past its limits. It would have been the entry of
-- this number, with so many bytes in all, of which the greatest frame brings 2,097,184. Behind them no call may have had an id left.
abbrev pub was_full : Limits → List JournalItem → (entries bytes : ℕ) → Bool
was_full limits items entries bytes =
    let before = take (entries - 1) items in
    nat_le 1 entries && nat_le entries (length items + 1)
    && nat_le (bytes_of before) bytes && nat_le bytes (bytes_of before + 2097184)
    && is_past limits (record { entries = entries; bytes = bytes; asks = asks_of before + 1 })

-- so of one that ends before its ids do: it has as many items as it may have, or the next one would have gone past its bytes
abbrev pub IsFullIn : Limits → List JournalItem → (entries bytes : ℕ) → Type 0
IsFullIn limits items entries bytes =
    ((entries ≡ limits.entries + 1) × (length items ≡ limits.entries))
    ⊎ ((limits.bytes < bytes) × (bytes ≤ bytes_of (take (entries - 1) items) + 2097184))

-- A turn ended so for what is seen: the journal was full, or the disk has failed oftener than it had before the server.
abbrev pub is_seen : Limits → List JournalItem → (failed_before failed : ℕ) → TurnEnd → Bool
is_seen limits items failed_before failed (end.JournalFull entries bytes) = was_full limits items entries bytes
is_seen limits items failed_before failed end.Halted = nat_lt failed_before failed
is_seen limits items failed_before failed _ = true
