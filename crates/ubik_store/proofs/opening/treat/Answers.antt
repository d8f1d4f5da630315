use Rattle.std.proofs.Common.{◌≡◌, IsErr, IfErr, refl, ap, rules}
use Rattle.std.specs.Result.{is_err}
use Rattle.std.proofs.lemmas.Bool.{false≢true}
use Rattle.ubik_store.specs.declared.faults.StoreFault.TheVariants.{DiskFault}
use Rattle.ubik_store.proofs.Opened.{Opened}
use Rattle.ubik_store.proofs.Rests.{Rested}
use Rattle.ubik_store.proofs.Telling.{told, of_told, err_on, err_back}
use Rattle.ubik_store.proofs.Treating.{opened_rests, log_is_opening, treat_is_opening, treat_steps}
use Rattle.ubik_store.proofs.opening.treat.Goals as goal

pub returns-in_err-pages-clause-opening : goal.returns-in_err-pages-clause-opening
returns-in_err-pages-clause-opening g c =
    let r = c.from_residual.result in
    let fault = c.in_err-pages.field-0.0 in
    let some : IsErr r = search rules in
    let only : IfErr r (λ e. e ≡ fault) = search rules in
    log_is_opening g.D.Disk c.requires.plans.stale.ignored
    (err_on r c.treat_log.result fault DiskFault c.in_err-pages.was some only)
    (err_back r c.treat_log.result fault DiskFault c.in_err-pages.was some only)
    c.treat_log.ensures.opening

pub returns-in-Done-clause-opened : goal.returns-in-Done-clause-opened
returns-in-Done-clause-opened g c =
    let pages = c.in_ok-pages.pages in
    let mid = g.D.Disk.files c.treat_log.new.disk in
    let new = g.D.Disk.files c.clear_incoming.new.disk in
    let first = c.in_ok-pages.ensures.opened in
    record {
      stands =
          told _ (Rested new pages)
          (λ fs is. opened_rests fs pages mid new c.in-Done.ensures.files (of_told _ fs (Opened mid pages) is first.stands));
      numbers = first.numbers;
      len = first.len;
      agrees = search rules;
      settled = search rules;
      steps =
          treat_steps g.D.Disk c.args.disk.now c.treat_log.new.disk c.clear_incoming.new.disk pages c.requires.plans.stale.ignored
          first.stands
          first.steps c.in-Done.ensures.steps;
      untold = search rules;
    }

pub returns-in-Done-clause-opening : goal.returns-in-Done-clause-opening
returns-in-Done-clause-opening g c =
    treat_is_opening g.D.Disk c.in_ok-pages.pages c.requires.plans.stale.ignored c.in_ok-pages.ensures.opening
    (λ failed. false≢true (ap is_err failed))
    c.in_ok-pages.ensures.opened.stands c.in_ok-pages.ensures.opened.settled c.in-Done.ensures.moments c.in-Done.ensures.few
    (λ failed. let no : ⊥ = cc in absurd no) (λ failed. absurd (false≢true (ap is_err failed))) c.in-Done.ensures.changes

pub returns-in-Failed-clause-opening : goal.returns-in-Failed-clause-opening
returns-in-Failed-clause-opening g c =
    treat_is_opening g.D.Disk c.in_ok-pages.pages c.requires.plans.stale.ignored c.in_ok-pages.ensures.opening
    (λ failed. false≢true (ap is_err failed))
    c.in_ok-pages.ensures.opened.stands c.in_ok-pages.ensures.opened.settled c.in-Failed.ensures.moments c.in-Failed.ensures.few
    (λ failed. refl) (λ failed. refl) c.in-Failed.ensures.changes
