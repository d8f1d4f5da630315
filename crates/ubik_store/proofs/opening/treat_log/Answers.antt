use Rattle.std.proofs.Common.{◌≡◌, ◌∙◌, ◌+◌, ℕ, List, length, sym, ap, subst, rules, IsErr, IfErr}
use Rattle.std.specs.List.{All}
use Rattle.std.specs.Result.{is_err}
use Rattle.std.proofs.lemmas.Bool.{false≢true}
use Rattle.ubik_types.specs.declared.images.Change.{Change}
use Rattle.ubik_log.specs.LogGrammar.{IsWithinImage}
use Rattle.ubik_store.specs.Moments.{head_calls}
use Rattle.ubik_store.specs.Opening.{EndsLogIn}
use Rattle.ubik_store.specs.declared.faults.StoreFault.TheVariants.{DiskFault}
use Rattle.ubik_store.specs.declared.opening.LogPlan.TheVariants.{Redo}
use Rattle.ubik_store.specs.Redo.{IsSeamless}
use Rattle.ubik_store.proofs.Opened.{Opened, planned, emptied, plan_seamless, plan_within, plan_len, plan_stands, plan_calls, redo_is_opening, empty_stands, empty_calls, empty_is_opening}
use Rattle.ubik_store.proofs.Telling.{told, of_told, err_of}
use Rattle.ubik_store.proofs.opening.treat_log.Goals as goal

pub redo-requires-clause-seamless : goal.redo-requires-clause-seamless
redo-requires-clause-seamless g c =
    subst (IsSeamless c.in-Redo.pages.len) (sym c.as_slice.ensures)
    (plan_seamless g.D.Disk c.args.disk.now _ _ _
    (planned g.D.Disk c.args.disk.now c.args.plan _ _ _ c.in-Redo.is c.requires.plans) c.requires.ignored)

pub redo-requires-clause-within : goal.redo-requires-clause-within
redo-requires-clause-within g c =
    subst (All IsWithinImage) (sym c.as_slice.ensures)
    (plan_within g.D.Disk c.args.disk.now _ _ _
    (planned g.D.Disk c.args.disk.now c.args.plan _ _ _ c.in-Redo.is c.requires.plans) c.requires.ignored)

pub returns-in_err-redo-in-Redo-clause-opening : goal.returns-in_err-redo-in-Redo-clause-opening
returns-in_err-redo-in-Redo-clause-opening g c =
    let r = c.from_residual.result in
    let some : IsErr r = search rules in
    let only : IfErr r (λ fault. fault ≡ DiskFault) = search rules in
    let made = c.as_slice.result.now in
    let plan = planned g.D.Disk c.args.disk.now c.args.plan _ made _
    (c.in-Redo.is ∙ ap (λ (xs : List Change). Redo c.in-Redo.pages xs c.in-Redo.version) (sym c.as_slice.ensures)) c.requires.plans in
    redo_is_opening g.D.Disk c.args.disk.now c.in-Redo.pages made c.in-Redo.version plan c.requires.ignored c.requires.settled
    c.requires.runs c.redo.ensures.moments c.redo.ensures.plain c.redo.ensures.few
    (λ failed. err_of r DiskFault only some) (λ failed. ap is_err c.in_err-redo-in-Redo.was) c.redo.ensures.calls

pub returns-in_ok-redo-in-Redo-clause-opening : goal.returns-in_ok-redo-in-Redo-clause-opening
returns-in_ok-redo-in-Redo-clause-opening g c =
    let made = c.as_slice.result.now in
    let plan = planned g.D.Disk c.args.disk.now c.args.plan _ made _
    (c.in-Redo.is ∙ ap (λ (xs : List Change). Redo c.in-Redo.pages xs c.in-Redo.version) (sym c.as_slice.ensures)) c.requires.plans in
    redo_is_opening g.D.Disk c.args.disk.now c.in-Redo.pages made c.in-Redo.version plan c.requires.ignored c.requires.settled
    c.requires.runs c.redo.ensures.moments c.redo.ensures.plain c.redo.ensures.few
    (λ failed. absurd (false≢true failed)) (λ failed. absurd (false≢true (ap is_err failed))) c.in_ok-redo-in-Redo.ensures.calls

pub returns-in_ok-redo-in-Redo-clause-opened : goal.returns-in_ok-redo-in-Redo-clause-opened
returns-in_ok-redo-in-Redo-clause-opened g c =
    let old = c.args.disk.now in
    let new = c.redo.new.disk in
    let made = c.as_slice.result.now in
    let v = c.in-Redo.version in
    let plan = planned g.D.Disk old c.args.plan _ made _
    (c.in-Redo.is ∙ ap (λ (xs : List Change). Redo c.in-Redo.pages xs v) (sym c.as_slice.ensures)) c.requires.plans in
    let done = c.in_ok-redo-in-Redo.ensures in
    record {
      stands = told _ (Opened (g.D.Disk.files new) c.redo.new.pages) (λ fs is.
          plan_stands g.D.Disk old c.in-Redo.pages made v plan c.requires.ignored fs is
          (g.D.Disk.files new) c.redo.new.pages done.files done.label done.len);
      numbers = (v, done.label, plan.is_told.is_version);
      len = plan_len g.D.Disk old c.in-Redo.pages made v plan c.requires.ignored _ done.len;
      agrees = done.agrees;
      settled = done.settled c.requires.settled;
      steps = told _ (λ fs. (calls : ℕ) → EndsLogIn fs calls → g.D.Disk.steps new ≡ g.D.Disk.steps old + calls) (λ fs is calls opens.
          of_told _ fs (λ fs. g.D.Disk.steps new ≡ g.D.Disk.steps old + (7 + length made + head_calls fs.database)) is done.steps
          ∙ ap (λ (n : ℕ). g.D.Disk.steps old + n)
          (sym (plan_calls g.D.Disk old c.in-Redo.pages made v plan c.requires.ignored fs is calls opens)));
      untold = search rules;
    }

pub returns-in_err-empty_discarded-in-Empty-clause-opening : goal.returns-in_err-empty_discarded-in-Empty-clause-opening
returns-in_err-empty_discarded-in-Empty-clause-opening g c =
    let r = c.from_residual-in_err-empty_discarded-in-Empty.result in
    let some : IsErr r = search rules in
    let only : IfErr r (λ fault. fault ≡ DiskFault) = search rules in
    let plan = emptied g.D.Disk c.args.disk.now c.args.plan _ _ c.in-Empty.is c.requires.plans in
    empty_is_opening g.D.Disk c.args.disk.now c.in-Empty.pages c.in-Empty.begun plan c.requires.ignored c.requires.runs
    c.empty_discarded.ensures.moments c.empty_discarded.ensures.few
    (λ failed. err_of r DiskFault only some)
    (λ failed. err_of c.empty_discarded.result DiskFault c.empty_discarded.ensures.fault (ap is_err c.in_err-empty_discarded-in-Empty.was))
    c.empty_discarded.ensures.changes

pub returns-in_ok-empty_discarded-in-Empty-clause-opening : goal.returns-in_ok-empty_discarded-in-Empty-clause-opening
returns-in_ok-empty_discarded-in-Empty-clause-opening g c =
    let plan = emptied g.D.Disk c.args.disk.now c.args.plan _ _ c.in-Empty.is c.requires.plans in
    empty_is_opening g.D.Disk c.args.disk.now c.in-Empty.pages c.in-Empty.begun plan c.requires.ignored c.requires.runs
    c.empty_discarded.ensures.moments c.empty_discarded.ensures.few
    (λ failed. absurd (false≢true (ap is_err failed)))
    (λ failed. absurd (false≢true (ap is_err failed))) c.in_ok-empty_discarded-in-Empty.ensures.changes

pub returns-in_ok-empty_discarded-in-Empty-clause-opened : goal.returns-in_ok-empty_discarded-in-Empty-clause-opened
returns-in_ok-empty_discarded-in-Empty-clause-opened g c =
    let old = c.args.disk.now in
    let new = c.empty_discarded.new.disk in
    let pages = c.in-Empty.pages in
    let plan = emptied g.D.Disk old c.args.plan _ _ c.in-Empty.is c.requires.plans in
    let done = c.in_ok-empty_discarded-in-Empty.ensures in
    record {
      stands = told _ (Opened (g.D.Disk.files new) pages) (λ fs is.
          empty_stands g.D.Disk old pages c.in-Empty.begun plan c.requires.ignored fs is (g.D.Disk.files new) done.files);
      numbers = (plan.version, plan.label, plan.is_version);
      len = plan.len;
      agrees = search rules;
      settled = done.settled;
      steps = told _ (λ fs. (calls : ℕ) → EndsLogIn fs calls → g.D.Disk.steps new ≡ g.D.Disk.steps old + calls) (λ fs is calls opens.
          done.steps ∙ ap (λ (n : ℕ). g.D.Disk.steps old + n)
          (sym (empty_calls g.D.Disk old pages c.in-Empty.begun plan c.requires.ignored fs is calls opens)));
      untold = search rules;
    }
