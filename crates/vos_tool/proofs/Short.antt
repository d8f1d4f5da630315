-- Names that are too long for a call, and names that are not.
use Rattle.std.proofs.Common.{◌≡◌, ℕ, ◌<◌, ◌≤◌, true, false, leb, List, length, Result, Err, arith, refl}
use Rattle.std.proofs.lemmas.Bool.Decides.{nat_tests}
use Rattle.io_base.specs.declared.links.Exchange.{Exchange}
use Rattle.tool_base.specs.Course.{Asker, Course, stops}
use Rattle.tool_base.specs.Running.{Ran}
use Rattle.tool_base.specs.declared.stops.Refusal.TheVariants.{Malformed}
use Rattle.tool_base.specs.declared.stops.Stop.{Stop}
use Rattle.tool_base.specs.declared.stops.Stop.TheVariants.{Refused}
use Rattle.tool_base.proofs.Walking.{ran_as, ran_still}
use Rattle.vos_tool.specs.Volumes.{if_callable}

is_low : (n : ℕ) → n ≤ 255 → leb n 255 ≡ true
is_low n low = grind (arith, nat_tests)

is_high : (n : ℕ) → 255 < n → leb n 255 ≡ false
is_high n high = grind (arith, nat_tests)

short : {A : Type 0} (name : List ℕ) (course : Course A) → length name ≤ 255 → course ≡ if_callable name course
short name course low = rw (is_low (length name) low) refl

long : {A : Type 0} (name : List ℕ) (course : Course A) → 255 < length name → stops (Refused Malformed) ≡ if_callable name course
long name course high = rw (is_high (length name) high) refl

pub ran_short : {A : Type 0} (name : List ℕ) (course : Course A) (s s1 : Asker) (e e1 : List Exchange) (r : Result A Stop)
    → length name ≤ 255
    → Ran course s s1 e e1 r → Ran (if_callable name course) s s1 e e1 r
ran_short name course s s1 e e1 r low ran = ran_as course (if_callable name course) (short name course low) ran

pub ran_long : {A : Type 0} (name : List ℕ) (course : Course A) (s : Asker) (e : List Exchange) → 255 < length name
    → Ran (if_callable name course) s s e e (Err (Refused Malformed))
ran_long {A = A} name course s e high =
    ran_as (stops {A = A} (Refused Malformed)) (if_callable name course) (long name course high)
    (ran_still s e (Err (Refused Malformed)) tt)
