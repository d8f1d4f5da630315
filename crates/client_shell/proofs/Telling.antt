-- What is told of texts, refusals and plans.
use Rattle.std.proofs.Common.{◌≡◌, ◌≢◌, ◌+◌, ◌<◌, ℕ, Bool, true, false, List, [], Option, Some, None, refl, sym, ap, subst, inl, inr, arith, append-nil}
use Rattle.disk_base.specs.Count.{HasCause}
use Rattle.io_base.specs.declared.links.Exchange.{Exchange}
use Rattle.afs_words.specs.declared.tables.Tool.{Tool}
use Rattle.tool_base.specs.Ending.{Appended, FrontOf}
use Rattle.afs_client.specs.Client.{Declines}
use Rattle.tool_help.specs.Answers.{line_of}
use Rattle.client_plans.specs.declared.plans.Plan.{Plan}
use Rattle.client_shell.specs.Runs.{CommandRan, PlanDone, RanShort, Refused, RunsIf, Told}
use Rattle.client_shell.specs.Sources.{DoneUnless, WordsDone}
use Rattle.client_shell.specs.Standing.{Begun, Standing, standing}

-- a cause of one of two counts is one of their sum
pub caused_first : {P Q : Type 0} (a b others : ℕ) → HasCause a b P → (Q → P) → HasCause (a + others) (b + others) Q
caused_first a b others cause from = record {
  never_falls = omega (arith, cause.never_falls);
  rose = λ q. let rose : a < b = cause.rose (from q) in omega arith;
}

pub caused_second : {P Q : Type 0} (a b others : ℕ) → HasCause a b P → (Q → P) → HasCause (others + a) (others + b) Q
caused_second a b others cause from = record {
  never_falls = omega (arith, cause.never_falls);
  rose = λ q. let rose : a < b = cause.rose (from q) in omega arith;
}

pub told_whole : (text bytes : List ℕ) (own : ℕ) (before after : Option (List ℕ)) → bytes ≡ text → Appended before after bytes →
    Told text own own before after
told_whole text bytes own before after same said = inl (refl, subst (λ (t : List ℕ). Appended before after t) same said)

pub told_front : (text bytes : List ℕ) (own status : ℕ) (before after : Option (List ℕ)) → bytes ≡ text → status ≡ 4
    → FrontOf before after bytes →
    Told text own status before after
told_front text bytes own status before after same is said = inr (is, subst (λ (t : List ℕ). FrontOf before after t) same said)

pub told_as : (text bytes : List ℕ) (own status : ℕ) (before after : Option (List ℕ)) → bytes ≡ text → Told bytes own status before after →
    Told text own status before after
told_as text bytes own status before after same told = subst (λ (t : List ℕ). Told t own status before after) same told

-- nothing of a text was written
unsaid : (before : Option (List ℕ)) → Appended before before []
unsaid None = tt
unsaid (Some bytes) = ap (λ (x : List ℕ). Some x) (sym (append-nil bytes))

pub declines_told : (line bytes : List ℕ) (status : ℕ) (before after : Option (List ℕ)) → bytes ≡ line → Told bytes 2 status before after →
    Declines line status before after
declines_told line bytes status before after same told = subst (λ (t : List ℕ). Declines t status before after) same (elim told [
  | inl whole ↦ inl whole
  | inr front ↦ inr (inl (front.0), front.1)
])

pub declines_short : (line : List ℕ) (status : ℕ) (before : Option (List ℕ)) → status ≡ 5 → Declines line status before before
declines_short line status before is =
    inr (inr is, record { said = []; unsaid = line; text_is = refl; appended = unsaid before })

pub declines_bad : (line : List ℕ) (status : ℕ) (before after : Option (List ℕ)) → Declines line status before after → status ≢ 0
declines_bad line status before after (inl whole) = λ none. absurd (omega (arith, whole.0, none))
declines_bad line status before after (inr (inl four, front)) = λ none. absurd (omega (arith, four, none))
declines_bad line status before after (inr (inr five, front)) = λ none. absurd (omega (arith, five, none))

-- words were refused on standard error
pub refused_at : (tool : Tool) (why : List ℕ) (kept : List Exchange) (out before after : Option (List ℕ))
    (others faults faults_after status : ℕ) →
    Declines (line_of tool why) status before after → HasCause faults faults_after (status ≡ 4) →
    Refused tool why (standing kept out before others faults) (standing kept out after others faults_after) status
refused_at tool why kept out before after others faults faults_after status said cause = record {
  unasked = refl;
  untold = refl;
  said = said;
  cause = caused_second faults faults_after others cause (λ is. is);
}

-- memory ran out before it was known whether hosts are named
pub short_runs : (begun : Begun) (b : Bool) (tool : Tool) (words : List (List ℕ)) (before after : Standing) (status : ℕ)
    → RanShort before after status →
    RunsIf begun b tool words before after status
short_runs begun true tool words before after status short = inr short
short_runs begun false tool words before after status short = inr short

pub runs_named : (begun : Begun) (b : Bool) (tool : Tool) (words : List (List ℕ)) (before after : Standing) (status : ℕ) → b ≡ true →
    CommandRan begun words before after status → RunsIf begun b tool words before after status
runs_named begun b tool words before after status is ran =
    subst (λ (x : Bool). RunsIf begun x tool words before after status) (sym is) (inl ran)

pub runs_refused : (begun : Begun) (b : Bool) (tool : Tool) (words : List (List ℕ)) (before after : Standing) (status : ℕ) → b ≡ false →
    RunsIf begun false tool words before after status → RunsIf begun b tool words before after status
runs_refused begun b tool words before after status is refused =
    subst (λ (x : Bool). RunsIf begun x tool words before after status) (sym is) refused

-- a plan is this one
pub plan_is : (begun : Begun) (tool : Tool) (plan one : Plan) (before after : Standing) (status : ℕ) → plan ≡ one
    → PlanDone begun tool one before after status →
    PlanDone begun tool plan before after status
plan_is begun tool plan one before after status is done = subst (λ (p : Plan). PlanDone begun tool p before after status) (sym is) done

-- a line is passed over, or is not
pub passed : (begun : Begun) (b : Bool) (tool : Tool) (hosts line : List ℕ) (at : Standing) → b ≡ true
    → DoneUnless begun b tool hosts line at at 0
passed begun b tool hosts line at is = subst (λ (x : Bool). DoneUnless begun x tool hosts line at at 0) (sym is) (refl, refl)

pub not_passed : (begun : Begun) (b : Bool) (tool : Tool) (hosts line : List ℕ) (before after : Standing) (status : ℕ) → b ≡ false →
    WordsDone begun tool hosts line before after status → DoneUnless begun b tool hosts line before after status
not_passed begun b tool hosts line before after status is done =
    subst (λ (x : Bool). DoneUnless begun x tool hosts line before after status) (sym is) done
