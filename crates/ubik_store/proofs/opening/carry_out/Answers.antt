use Rattle.std.proofs.Common.{◌≡◌, ap, rules, arith, IsErr, IfErr}
use Rattle.std.specs.Result.{is_err}
use Rattle.std.proofs.lemmas.Bool.{false≢true}
use Rattle.ubik_store.specs.declared.faults.StoreFault.TheVariants.{DiskFault}
use Rattle.ubik_store.proofs.Telling.{err_of}
use Rattle.ubik_store.proofs.Treating.{taken, take_stands, take_steps, take_is_opening}
use Rattle.ubik_store.proofs.opening.carry_out.Goals as goal

pub take_over-requires-clause-plan : goal.take_over-requires-clause-plan
take_over-requires-clause-plan g c = taken g.D.Disk c.args.disk.now c.args.plan _ _ _ _ c.in-Take.is c.as_slice.ensures c.requires.plans

pub returns-in_err-take_over-in-Take-clause-opening : goal.returns-in_err-take_over-in-Take-clause-opening
returns-in_err-take_over-in-Take-clause-opening g c =
    let r = c.from_residual.result in
    let some : IsErr r = search rules in
    let only : IfErr r (λ fault. fault ≡ DiskFault) = search rules in
    let text = c.as_slice.result.now in
    let v = c.in-Take.version in
    let plan =
    taken g.D.Disk c.args.disk.now c.args.plan c.in-Take.pages c.in-Take.text text v c.in-Take.is c.as_slice.ensures c.requires.plans in
    take_is_opening g.D.Disk c.args.disk.now c.in-Take.pages text v plan c.requires.runs c.take_over.ensures.stands.moments
    c.take_over.ensures.stands.plain (λ failed. err_of r DiskFault only some)
    (λ failed. ap is_err c.in_err-take_over-in-Take.was) c.take_over.ensures.stands.calls

pub returns-in_ok-take_over-in-Take-clause-opened : goal.returns-in_ok-take_over-in-Take-clause-opened
returns-in_ok-take_over-in-Take-clause-opened g c =
    let old = c.args.disk.now in
    let new = c.take_over.new.disk in
    let text = c.as_slice.result.now in
    let v = c.in-Take.version in
    let plan = taken g.D.Disk old c.args.plan c.in-Take.pages c.in-Take.text text v c.in-Take.is c.as_slice.ensures c.requires.plans in
    let done = c.in_ok-take_over-in-Take.ensures.done in
    record {
      stands =
          take_stands g.D.Disk old c.in-Take.pages text v plan (g.D.Disk.files new) c.take_over.new.pages done.files done.label done.len;
      numbers = (v, done.label, plan.is_text.is_version);
      len = omega (arith, done.len, plan.is_text.fits);
      agrees = done.agrees;
      settled = done.settled;
      steps = take_steps g.D.Disk old c.in-Take.pages text v plan new done.steps;
      untold = search rules;
    }

pub returns-in_ok-take_over-in-Take-clause-opening : goal.returns-in_ok-take_over-in-Take-clause-opening
returns-in_ok-take_over-in-Take-clause-opening g c =
    let text = c.as_slice.result.now in
    let v = c.in-Take.version in
    let plan =
    taken g.D.Disk c.args.disk.now c.args.plan c.in-Take.pages c.in-Take.text text v c.in-Take.is c.as_slice.ensures c.requires.plans in
    take_is_opening g.D.Disk c.args.disk.now c.in-Take.pages text v plan c.requires.runs c.take_over.ensures.stands.moments
    c.take_over.ensures.stands.plain (λ failed. absurd (false≢true failed))
    (λ failed. absurd (false≢true (ap is_err failed))) c.in_ok-take_over-in-Take.ensures.stands.calls
