use Rattle.std.proofs.Common.{◌∙◌, refl, sym, rules}
use Rattle.ubik_node.proofs.Lending.{lent_reads, made_in}
use Rattle.ubik_node.proofs.evaluations.evaluate.Goals as goal

pub returns-clause-made : goal.returns-clause-made
returns-clause-made g c =
    made_in g.V.DraftService.standing (g.D.Disk.files c.args.store.now.disk) (g.D.Disk.tells c.args.store.now.disk) c.args.now c.args.call.now
    (g.D.Disk.tells_now c.args.store.now.disk) c.evaluate_over-image.result.1 c.outcome_over.result c.outcome_over.ensures.made c.evaluate_over-image.ensures.made

pub returns-clause-disk : goal.returns-clause-disk
returns-clause-disk g c =
    let fault = c.outcome_over.ensures.fault in
    lent_reads g.D.Disk c.args.store.now _ c.evaluate_over-image.result.0 (record { store = c.image.inside.store; faults = c.image.inside.faults }) _ c.evaluate_over-image.ensures.reads.came
    refl c.requires.fresh c.image.view_is (search rules) (λ is. fault.1 (c.failed-failed.ensures ∙ is)) (λ is. sym c.failed-failed.ensures ∙ fault.0 is)
