-- A page of the entries that a call lists.
use Rattle.std.specs.Prelude.{ℕ, ℤ, ◌≤◌, Bool, List, filter, length, map, take}
use Rattle.prdb_layout.specs.Records.{entry_in}
use Rattle.prdb_layout.specs.State.{PrEntry}
use Rattle.entry_scans.specs.Pages.{pair_count_in}
use Rattle.pt_calls.specs.declared.answers.PtEntry.{PtEntry}
use Rattle.pt_service.specs.Fitting.{entry_fits}
use Rattle.pt_service.specs.Meaning.{is_listed, told, told_of}
use Rattle.pt_service.specs.State.{State, entries}

-- the entries of these kinds above an id, ascending
abbrev pub above : State → (kinds : ℕ) → (after : ℤ) → List PrEntry
above s kinds after = filter (is_listed kinds after) (entries s.registry)

-- the first hundred of them, as an answer has them
abbrev pub page_of : State → (kinds : ℕ) → (after : ℤ) → List PtEntry
page_of s kinds after = map (told_of s) (take 100 (above s kinds after))

-- an entry of an answer, whose name is that of an entry
abbrev pub HasShortName : PtEntry → Type 0
HasShortName e = length e.name ≤ 63

-- the entry in a block, as an answer has it
abbrev pub told_in : List ℕ → PtEntry
told_in block = told (pair_count_in block) (entry_in block)

-- a database may hold it
abbrev pub fits_in : List ℕ → Bool
fits_in block = entry_fits (entry_in block)
