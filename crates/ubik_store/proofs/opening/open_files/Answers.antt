use Rattle.std.proofs.Common.{◌≡◌, IsErr, IfErr, ap, rules}
use Rattle.std.specs.Result.{is_err}
use Rattle.std.proofs.lemmas.Bool.{false≢true}
use Rattle.disk_base.proofs.Runs.{reads_as}
use Rattle.ubik_store.specs.declared.faults.StoreFault.TheVariants.{DiskFault}
use Rattle.ubik_store.proofs.Opened.{reads_is_opening, opening_after}
use Rattle.ubik_store.proofs.Telling.{err_on, err_back, if_ok_map}
use Rattle.ubik_store.proofs.Treating.{opens_after}
use Rattle.ubik_store.proofs.opening.open_files.Goals as goal

pub returns-in_err-plan-clause-opening : goal.returns-in_err-plan-clause-opening
returns-in_err-plan-clause-opening g c =
    let r = c.from_residual.result in
    let fault = c.in_err-plan.field-0.0 in
    let some : IsErr r = search rules in
    let only : IfErr r (λ e. e ≡ fault) = search rules in
    reads_is_opening g.D.Disk c.requires.settled
    (reads_as (err_on r c.plan_opening.result fault DiskFault c.in_err-plan.was some only)
    (err_back r c.plan_opening.result fault DiskFault c.in_err-plan.was some only) c.plan_opening.ensures.reads)
    (λ is. err_on r c.plan_opening.result fault DiskFault c.in_err-plan.was some only (c.plan_opening.ensures.stopped is))

pub returns-clause-opening : goal.returns-clause-opening
returns-clause-opening g c =
    opening_after g.D.Disk c.requires.settled c.in_ok-plan.ensures.reads
    (λ failed. false≢true (ap is_err failed)) c.carry_out.ensures.opening

pub returns-clause-opened : goal.returns-clause-opened
returns-clause-opened g c =
    if_ok_map c.carry_out.result c.carry_out.ensures.opened
    (λ pages. opens_after g.D.Disk pages c.in_ok-plan.ensures.reads (λ failed. false≢true (ap is_err failed)))
