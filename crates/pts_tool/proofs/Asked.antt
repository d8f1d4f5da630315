-- Calls that were asked, and what follows them.
use Rattle.std.proofs.Common.{◌≡◌, ℕ, Bool, true, false, List, [], Option, Result, Ok, Err, refl, subst, sym}
use Rattle.io_base.specs.declared.links.Exchange.{Exchange}
use Rattle.pt_calls.specs.Writes.{is_write}
use Rattle.pt_calls.specs.Calls.{call_kind, spelling}
use Rattle.pt_calls.specs.declared.answers.PtAnswer.{PtAnswer}
use Rattle.pt_calls.specs.declared.calls.PtCall.{PtCall}
use Rattle.tool_base.specs.Asking.{asks_call}
use Rattle.tool_base.specs.Course.{Asker, Course, stops}
use Rattle.tool_base.specs.Running.{Ran}
use Rattle.tool_base.specs.declared.stops.Refusal.TheVariants.{Malformed}
use Rattle.tool_base.specs.declared.stops.Stop.{Stop}
use Rattle.tool_base.specs.declared.stops.Stop.TheVariants.{Refused}
use Rattle.tool_base.proofs.Walking.{ran_as, ran_still}
use Rattle.pts_tool.specs.Asking.{asks, has_spelling, taken_from}

asks_short : {A : Type 0} (take : PtCall → PtAnswer → Option A) (call : PtCall) → has_spelling call ≡ true
    → asks_call (is_write (call_kind call)) (taken_from (take call) call) (spelling call) ≡ asks take call
unfolding asks
asks_short take call is = rw is refl

asks_long : {A : Type 0} (take : PtCall → PtAnswer → Option A) (call : PtCall) → has_spelling call ≡ false
    → stops {A = A} (Refused Malformed) ≡ asks take call
unfolding asks
asks_long take call is = rw is refl

-- a call that has a spelling was asked
pub ran_spelled : {A : Type 0} (take : PtCall → PtAnswer → Option A) (call : PtCall) (s s1 : Asker) (e e1 : List Exchange)
    (r : Result A Stop)
    → has_spelling call ≡ true → Ran (asks_call (is_write (call_kind call)) (taken_from (take call) call) (spelling call)) s s1 e e1 r
    → Ran (asks take call) s s1 e e1 r
ran_spelled take call s s1 e e1 r is ran =
    ran_as (asks_call (is_write (call_kind call)) (taken_from (take call) call) (spelling call)) (asks take call)
    (asks_short take call is) ran

-- one that has none was not
pub ran_refused : {A : Type 0} (take : PtCall → PtAnswer → Option A) (call : PtCall) (s : Asker) (e : List Exchange)
    → has_spelling call ≡ false → Ran (asks take call) s s e e (Err (Refused Malformed))
ran_refused {A = A} take call s e is =
    ran_as (stops {A = A} (Refused Malformed)) (asks take call) (asks_long take call is) (ran_still s e (Err (Refused Malformed)) tt)
