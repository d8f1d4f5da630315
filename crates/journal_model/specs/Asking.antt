-- Under which ids calls are asked in the items of a journal (own).
use Rattle.std.specs.Prelude.{ℕ, ◌≡◌, ◌+◌, ◌==◌, ◌&&◌, Bool, true, List, [], ◌∷◌}
use Rattle.cell_model.specs.declared.events.NodeEvent.{NodeEvent}
use Rattle.cell_model.specs.declared.events.NodeEvent.TheVariants as event
use Rattle.cell_model.specs.World.{asked_after, is_new_ask}
use Rattle.journal_model.specs.Items.{JournalItem}

-- the ids of these items, and those before them, the last one first: as the world has those of a server since its opening
abbrev pub asked_in : List ℕ → List JournalItem → List ℕ
asked_in ids [] = ids
asked_in ids (item ∷ items) = asked_in (asked_after ids item.event) items

-- none is asked twice, or was before
abbrev pub asks_once : List ℕ → List JournalItem → Bool
asks_once ids [] = true
asks_once ids (item ∷ items) = is_new_ask ids item.event && asks_once (asked_after ids item.event) items

-- A server numbers its calls: behind so many a call has the next number.
abbrev pub asks_next : ℕ → NodeEvent → Bool
asks_next asks (event.Ask id call) = id == asks + 1
asks_next asks _ = true

abbrev pub asks_after : ℕ → NodeEvent → ℕ
asks_after asks (event.Ask id call) = asks + 1
asks_after asks _ = asks

-- so in all of these items
abbrev pub are_numbered : ℕ → List JournalItem → Bool
are_numbered asks [] = true
are_numbered asks (item ∷ items) = asks_next asks item.event && are_numbered (asks_after asks item.event) items

-- Who numbers its calls from 1 on asks none twice.
abbrev pub NumberedAskOnce : Type 0
NumberedAskOnce = (items : List JournalItem) → are_numbered 0 items ≡ true → asks_once [] items ≡ true
