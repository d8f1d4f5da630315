-- What is noted stays seen at the bench.
use Rattle.std.proofs.Common.{◌≡◌, Bool, true, Option, Some, None, refl}
use Rattle.server_rounds.specs.declared.turns.TurnEnd.{TurnEnd}
use Rattle.server_rounds.specs.declared.turns.TurnEnd.TheVariants as end
use Rattle.server_crew.specs.declared.desks.Cause.{Cause}
use Rattle.server_crew.specs.declared.desks.Cause.TheVariants as cause
use Rattle.server_crew.specs.Causes.{cause_of, is_noted}

pub noted_of : (caused : TurnEnd → Bool) (e : TurnEnd) → caused e ≡ true → is_noted caused (cause_of e) ≡ true
noted_of caused end.Done is = refl
noted_of caused end.Halted is = is
noted_of caused (end.JournalFull entries bytes) is = is
noted_of caused end.Cut is = refl
noted_of caused end.NoMemory is = refl

pub noted_stays : (old new : TurnEnd → Bool) (first : Option Cause) → ((e : TurnEnd) → old e ≡ true → new e ≡ true) → is_noted old first ≡ true → is_noted new first ≡ true
noted_stays old new None stays is = refl
noted_stays old new (Some cause.NoMemory) stays is = refl
noted_stays old new (Some cause.NoThread) stays is = refl
noted_stays old new (Some (cause.JournalFull entries bytes)) stays is = stays (end.JournalFull entries bytes) is
noted_stays old new (Some cause.Halted) stays is = stays end.Halted is
