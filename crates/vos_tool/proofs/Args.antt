-- The same course by an equal argument.
use Rattle.std.proofs.Common.{◌≡◌, List, Result, subst}
use Rattle.io_base.specs.declared.links.Exchange.{Exchange}
use Rattle.tool_base.specs.Course.{Asker, Course}
use Rattle.tool_base.specs.Running.{Ran}
use Rattle.tool_base.specs.declared.stops.Stop.{Stop}

pub ran_arg : {X A : Type 0} (course : X → Course A) {s s1 : Asker} {e e1 : List Exchange} {r : Result A Stop} (x y : X) → x ≡ y
    → Ran (course x) s s1 e e1 r → Ran (course y) s s1 e e1 r
ran_arg {X = X} {A = A} course {s = s} {s1 = s1} {e = e} {e1 = e1} {r = r} x y is ran = subst (λ (z : X). Ran (course z) s s1 e e1 r) is ran
