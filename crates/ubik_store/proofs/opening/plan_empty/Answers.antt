use Rattle.std.proofs.Common.{◌≡◌, IfErr, IfSome, rules}
use Rattle.page_file.specs.Fault.{Refuses, IsUnlabelled}
use Rattle.ubik_log.specs.LogGrammar.{IsDiscarded}
use Rattle.incoming_file.specs.Incoming.{IsIgnored}
use Rattle.ubik_store.specs.Faults.{of_page}
use Rattle.ubik_store.specs.Opening.{RefusesFiles}
use Rattle.ubik_store.proofs.Opened.{refused_open}
use Rattle.ubik_store.proofs.Telling.{told, of_told, if_err}
use Rattle.ubik_store.proofs.opening.plan_empty.Goals as goal

pub returns-in_err-pages-clause-refused : goal.returns-in_err-pages-clause-refused
returns-in_err-pages-clause-refused g c =
    let r = c.from_residual.result in
    let fault = c.in_err-pages.field-0.0 in
    let is : IfErr r (λ e. e ≡ of_page fault) = search rules in
    if_err r (of_page fault) (λ e. IfSome (g.D.Disk.files c.args.disk.now) (λ fs. RefusesFiles fs e)) is
    (told _ (λ fs. RefusesFiles fs (of_page fault)) (λ fs here.
    refused_open fs fault (of_told _ fs (λ fs. IsIgnored fs.incoming) here c.requires.ignored)
    (of_told _ fs (λ fs. IsDiscarded fs.log) here c.requires.discarded)
    (of_told _ fs (λ fs. Refuses IsUnlabelled fs.database fault) here c.in_err-pages.ensures.refused)))
