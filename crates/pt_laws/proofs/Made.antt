-- A change that may be made leaves an image that holds the state after it.
use Rattle.std.proofs.Common.{ℕ, List}
use Rattle.prdb_layout.specs.Registry.{with_entry}
use Rattle.prdb_finds.proofs.MaximaSet.{maxima_held}
use Rattle.prdb_entries.specs.Changes.{after_insert}
use Rattle.prdb_entries.proofs.Empty.{holds_after as holds_replaced}
use Rattle.prdb_entries.proofs.Inserted.{holds_inserted}
use Rattle.prdb_members.proofs.Ends.{join_holds, part_holds}
use Rattle.pt_service.specs.Meaning.{Answers, Change, Enter, Join, Leave, Makes, Maxima, NoCall, Part, Refit, Refuses, Turn, Verdict, asked, state_after, state_by, verdict}
use Rattle.pt_service.specs.State.{State}
use Rattle.pt_service.specs.Turning.{with_turned}
use Rattle.pt_looks.specs.States.{HoldsRecords, HoldsState, members_of}
use Rattle.pt_changes.proofs.Left.{left_holds}
use Rattle.pt_changes.specs.Turning.{after_turn}
use Rattle.pt_turns.proofs.Whole.{turned_holds}
use Rattle.pt_changes.specs.Standing.{image_after, image_by}
use Rattle.pt_laws.proofs.NamesFollow.{names_follow}
use Rattle.pt_laws.proofs.Possible.{CanMake, IsSound}
use Rattle.pt_laws.proofs.Sound.{sound}

holds_made : (image : List ℕ) (s : State) (change : Change) → HoldsRecords image s → CanMake s change
    → HoldsRecords (image_after change s image) (state_after change s)
holds_made image s (Maxima user group) holds can = maxima_held image s.registry (members_of s) user group holds can
holds_made image s (Enter e user group) holds can =
    maxima_held (after_insert e image) (with_entry e s.registry) (members_of s) user group
    (holds_inserted image s.registry (members_of s) e holds can.good can.may) can.maxima
holds_made image s (Refit e) holds can = holds_replaced image s.registry (members_of s) e.id e holds can.good can.may
holds_made image s (Leave id) holds can = left_holds image s id holds can.there can.not_fixed
holds_made image s (Turn e name owner id user group) holds can =
    let after = with_turned e name owner id s in
    maxima_held (after_turn e name owner id s image) after.registry (members_of after) user group
    (turned_holds image s e name owner id holds can.may) can.maxima
holds_made image s (Join user group) holds can = join_holds image s.registry (members_of s) user group holds can
holds_made image s (Part user group) holds can = part_holds image s.registry (members_of s) user group holds can

holds_by : (image : List ℕ) (s : State) (v : Verdict) → HoldsRecords image s → IsSound s v
    → HoldsRecords (image_by v s image) (state_by v s)
holds_by image s NoCall holds can = holds
holds_by image s (Refuses rule) holds can = holds
holds_by image s (Answers a) holds can = holds
holds_by image s (Makes a change) holds can = holds_made image s change holds can

pub holds_after : (image : List ℕ) (s : State) (bytes : List ℕ) → HoldsRecords image s
    → HoldsRecords (image_by (verdict s (asked bytes)) s image) (state_by (verdict s (asked bytes)) s)
holds_after image s bytes holds = holds_by image s (verdict s (asked bytes)) holds (sound s bytes holds.pairs.holds.valid)

pub state_held : (image : List ℕ) (s : State) (bytes : List ℕ) → HoldsState image s
    → HoldsState (image_by (verdict s (asked bytes)) s image) (state_by (verdict s (asked bytes)) s)
state_held image s bytes holds = record {
  records = holds_after image s bytes holds.records;
  names = names_follow s (asked bytes) holds.records.pairs.holds.valid holds.names;
}
