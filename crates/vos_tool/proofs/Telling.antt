-- The text of a command, written once its calls were asked.
use Rattle.std.proofs.Common.{◌≡◌, ℕ, ◌<◌, ◌≤◌, List, Option, Result, Ok, Err, arith, subst, sym, ◌∙◌}
use Rattle.std.specs.Prelude.{IsErrAnd}
use Rattle.disk_base.specs.Count.{HasCause}
use Rattle.io_base.specs.declared.links.Exchange.{Exchange}
use Rattle.tool_base.specs.Course.{◌>>=◌, Asker, Course, gives}
use Rattle.tool_base.specs.Running.{IsNoFault, Ran, ToldSome, Under}
use Rattle.tool_base.specs.Writing.{Says}
use Rattle.tool_base.specs.declared.stops.Stop.{Stop}
use Rattle.tool_base.specs.declared.stops.Stop.TheVariants as stop
use Rattle.tool_base.proofs.Working.{text_then, told_all, told_err, told_part, told_stops, under_next, under_start}

abbrev course_of : Course (List ℕ) → Course (Unit {0})
course_of item = item >>= text_then (gives tt)

started : (item : Course (List ℕ)) (s : Asker) (e : List Exchange) (out : Option (List ℕ))
    → Under (course_of item) s (course_of item) s e e out out
started item s e out = under_start (course_of item) s e out

-- its calls came to no text
pub told_end : (item : Course (List ℕ)) (s s1 : Asker) (e e1 : List Exchange) (out : Option (List ℕ)) (why : Stop)
    (r : Result (Unit {0}) Stop)
    → Ran item s s1 e e1 (Err why) → IsErrAnd r (λ (x : Stop). x ≡ why) → ToldSome (course_of item) s e e1 out out r
told_end item s s1 e e1 out why r ran end = record {
  now = s1;
  ran = told_err why r end (told_stops item (gives tt) (course_of item) s s s1 e e e1 out out why (started item s e out) ran);
}

-- the text was written, or a front of it
pub told_text : (item : Course (List ℕ)) (s s1 : Asker) (e e1 : List Exchange) (out out1 : Option (List ℕ)) (text : List ℕ)
    (r : Result (Unit {0}) Stop)
    → Ran item s s1 e e1 (Ok text) → Says r out out1 text → ToldSome (course_of item) s e e1 out out1 r
told_text item s s1 e e1 out out1 text (Ok x) ran says_so = record {
  now = s1;
  ran = told_all (course_of item) x s s1 e e1 out out1
      (under_next item (gives tt) (course_of item) s s s1 e e e1 out out out1 text (started item s e out) ran says_so);
}
told_text item s s1 e e1 out out1 text (Err why) ran says_so = record {
  now = s1;
  ran = let left : Result (Unit {0}) Stop = Err why in told_err stop.WriteFault left says_so.0
      (told_part item (gives tt) (course_of item) s s s1 e e e1 out out out1 text (started item s e out) ran says_so.1);
}

no_fault : (why : Stop) (r : Result (Unit {0}) Stop) → IsNoFault why → IsErrAnd r (λ (x : Stop). x ≡ why) → r ≡ Err stop.WriteFault → ⊥
no_fault why (Ok x) quiet end is = end
no_fault why (Err x) quiet end is =
    let same : x ≡ stop.WriteFault = cc in
    subst (λ (y : Stop). IsNoFault y) (sym end ∙ same) quiet

-- no sink had failed where only calls were asked
pub quiet_cause : (n : ℕ) (item : Course (List ℕ)) (s s1 : Asker) (e e1 : List Exchange) (why : Stop) (r : Result (Unit {0}) Stop)
    → Ran item s s1 e e1 (Err why) → IsErrAnd r (λ (x : Stop). x ≡ why) → HasCause n n (r ≡ Err stop.WriteFault)
quiet_cause n item s s1 e e1 why r ran end =
    record { never_falls = omega arith; rose = λ is. absurd (no_fault why r ran.quiet end is) }
