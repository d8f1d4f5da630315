use Rattle.std.proofs.Common.{◌∙◌, refl, sym, rules}
use Rattle.ubik_node.proofs.Lending.{lent_reads}
use Rattle.ubik_node.proofs.flights.flight_over.Goals as goal

pub returns-clause-disk : goal.returns-clause-disk
returns-clause-disk g c =
    let fault = c.outcome_over.ensures.fault in
    lent_reads g.D.Disk c.args.store.now _ c.make-made.new.image (record { store = c.image.inside.store; faults = c.image.inside.faults }) _ c.make-made.ensures.reads.came
    refl c.requires.fresh c.image.view_is (search rules) (λ is. fault.1 (c.failed-failed.ensures ∙ is)) (λ is. sym c.failed-failed.ensures ∙ fault.0 is)
