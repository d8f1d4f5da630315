-- What may happen at a server.
use Rattle.std.specs.Prelude.{◌≡◌, ◌==◌, ◌&&◌, ℕ, ◌+◌, ◌<◌, ◌≤◌, ◌^◌, Bool, true, List, [], ◌∷◌, length}
use Rattle.std.specs.List.{list_all}
use Rattle.ubik_calls.specs.declared.frames.Frame.TheVariants as frame
use Rattle.ubik_calls.specs.WireGrammar.{HasSpelling}
use Rattle.cell_model.specs.declared.events.NodeEvent.{NodeEvent}
use Rattle.cell_model.specs.declared.events.NodeEvent.TheVariants as event
use Rattle.cell_model.specs.Step.{Member}
use Rattle.ubik_node.specs.Taking.{is_for}
use Rattle.journal_model.specs.Asking.{asks_after, asks_next}
use Rattle.server_journal.specs.Weight.{weight}
use Rattle.server_journal.specs.declared.items.JournalItem.{JournalItem}

-- a packet has a spelling, and a call fewer than 2^31 bytes
abbrev pub IsFit : NodeEvent → Type 0
IsFit (event.Packet p) = HasSpelling (frame.Packet p)
IsFit event.BeaconTurn = Unit {0}
IsFit event.RecoverTurn = Unit {0}
IsFit (event.Ask id call) = length call < 2 ^ 31

-- calls are numbered from 1 on: one that comes after so many others has the next number
abbrev pub IsNext : ℕ → NodeEvent → Type 0
IsNext asks (event.Packet p) = Unit {0}
IsNext asks event.BeaconTurn = Unit {0}
IsNext asks event.RecoverTurn = Unit {0}
IsNext asks (event.Ask id call) = id ≡ asks + 1

-- it counts for no more in a journal than what the greatest frame brings: 32 bytes, and the 2,097,152 of that frame
abbrev pub IsFramed : NodeEvent → Type 0
IsFramed e = weight e ≤ 2097184

-- a packet is for this server, from another one of its cell
abbrev pub is_taken : Member → NodeEvent → Bool
is_taken m (event.Packet p) = is_for m p
is_taken m _ = true

abbrev pub are_taken : Member → List JournalItem → Bool
are_taken m items = list_all (λ (i : JournalItem). is_taken m i.event) items

-- The calls in these items are numbered: behind so many they have the next ids, one after the other.
abbrev pub are_numbered : ℕ → List JournalItem → Bool
are_numbered asks [] = true
are_numbered asks (i ∷ items) = asks_next asks i.event && are_numbered (asks_after asks i.event) items

-- what stands in a journal of this server, whatever its disk tells: calls under the ids 1, 2, .., and packets for it
abbrev pub IsOwnJournal : Member → List JournalItem → Type 0
IsOwnJournal m items = (are_numbered 0 items ≡ true) × (are_taken m items ≡ true)
