-- What becomes of an image when an entry leaves: its pairs go, what it owned has no owner, and its block is free.
use Rattle.std.specs.Prelude.{ℕ, ℤ, pos, ◌&&◌, not, List}
use Rattle.std.specs.Ordering.{int_eq}
use Rattle.prdb_entries.specs.Changes.{after_remove}
use Rattle.prdb_members.specs.Changes.{after_parts}
use Rattle.prdb_turns.specs.Owners.{after_gives}
use Rattle.pt_service.specs.State.{State, elements}
use Rattle.pt_changes.specs.Turning.{its_in}

-- ---- pairs that go

-- without any pair of an entry
abbrev pub without_pairs : ℤ → State → State
without_pairs entry s = record s { is_in = λ user group. not (int_eq user entry) && not (int_eq group entry) && s.is_in user group }

-- ---- an entry that leaves

-- What it owned is given up as it is read once the pairs are gone: each group is then the first in the owned chain when its turn comes.
unfoldable pub after_leave : ℤ → State → List ℕ → List ℕ
after_leave id s image =
    let parted = after_parts id (elements s id) image in
    after_remove id (after_gives (pos 0) (its_in parted s.registry id) s.registry parted)
