-- The moments of a run (own).
use Rattle.std.specs.Prelude.{ℕ, List, ◌∷◌, map}
use Rattle.std.specs.List.{All}
use Rattle.io_base.specs.Clock.{NeverFalls}
use Rattle.server_rounds.specs.Clock.{IsOfClock}
use Rattle.server_journal.specs.declared.items.JournalItem.{JournalItem}

-- that of the opening, and then that of each step
abbrev pub moments_of : ℕ → List JournalItem → List ℕ
moments_of opened items = opened ∷ map (λ (i : JournalItem). i.now) items

-- The clock gave each of them, at some time, and none is before the one before it.
abbrev pub AreTimed : (ℕ → Type 0) → List ℕ → Type 0
AreTimed gave moments = All (IsOfClock gave) moments × NeverFalls moments
