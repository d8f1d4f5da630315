-- Why workers end, as far as the bench shows it (own).
use Rattle.std.specs.Prelude.{Bool, true, Option, Some, None}
use Rattle.server_rounds.specs.declared.turns.TurnEnd.{TurnEnd}
use Rattle.server_rounds.specs.declared.turns.TurnEnd.TheVariants as end
use Rattle.server_crew.specs.declared.desks.Cause.{Cause}
use Rattle.server_crew.specs.declared.desks.Cause.TheVariants as cause
use Rattle.server_crew.specs.declared.running.CrewEnd.{CrewEnd}
use Rattle.server_crew.specs.declared.running.CrewEnd.TheVariants as crew

-- why a worker ends after a turn that ended so
abbrev pub cause_of : TurnEnd → Option Cause
cause_of end.Done = None
cause_of end.Halted = Some cause.Halted
cause_of (end.JournalFull entries bytes) = Some (cause.JournalFull entries bytes)
cause_of end.Cut = Some cause.NoMemory
cause_of end.NoMemory = Some cause.NoMemory

-- what was noted as the first cause is seen at the bench, whose causes these are; want of memory and of threads is not
abbrev pub is_noted : (TurnEnd → Bool) → Option Cause → Bool
is_noted caused (Some (cause.JournalFull entries bytes)) = caused (end.JournalFull entries bytes)
is_noted caused (Some cause.Halted) = caused end.Halted
is_noted caused _ = true

-- so is why all workers have ended
abbrev pub is_caused : (TurnEnd → Bool) → CrewEnd → Bool
is_caused caused (crew.JournalFull entries bytes) = caused (end.JournalFull entries bytes)
is_caused caused crew.Halted = caused end.Halted
is_caused caused _ = true
