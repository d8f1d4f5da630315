use Rattle.std.proofs.Common.{◌≡◌, ◌∙◌, IfErr, IfSome, subst, sym, arith, rules}
use Rattle.std.specs.List.{All}
use Rattle.page_file.specs.Fault.{Refuses, IsTooLong}
use Rattle.ubik_log.specs.LogGrammar.{IsWithinImage}
use Rattle.ubik_store.specs.Faults.{of_page}
use Rattle.ubik_store.specs.Opening.{RefusesFiles}
use Rattle.ubik_store.proofs.AsMade.{logged_is_within}
use Rattle.ubik_store.proofs.Opened.{refused_long}
use Rattle.ubik_store.proofs.Telling.{told, of_told, if_err}
use Rattle.ubik_store.proofs.opening.plan_redo.Goals as goal

pub reach-requires : goal.reach-requires
reach-requires g c =
    subst (All IsWithinImage) (sym (c.as_slice.ensures ∙ c.in_ok-changes.ensures))
    (logged_is_within c.args.told c.len.result (omega (arith, c.len.ensures, c.in_ok-pages.ensures.len)) c.requires.told.within_image)

pub returns-in_err-pages-clause-refused : goal.returns-in_err-pages-clause-refused
returns-in_err-pages-clause-refused g c =
    let r = c.from_residual.result in
    let fault = c.in_err-pages.field-0.0 in
    let is : IfErr r (λ e. e ≡ of_page fault) = search rules in
    if_err r (of_page fault) (λ e. IfSome (g.D.Disk.files c.args.disk.now) (λ fs. RefusesFiles fs e)) is
    (told _ (λ fs. RefusesFiles fs (of_page fault)) (λ fs here.
    refused_long fs fault (of_told _ fs (λ fs. Refuses IsTooLong fs.database fault) here c.in_err-pages.ensures.refused)))
