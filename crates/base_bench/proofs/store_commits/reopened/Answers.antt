use Rattle.std.proofs.Common.{subst, sym}
use Rattle.ubik_store.proofs.Committing.{opened_over}
use Rattle.ubik_store.specs.Rest.{AreEmpty}
use Rattle.ubik_store.proofs.Telling.{told, of_told}
use Rattle.base_bench.specs.Blocks.{IsLabelled}
use Rattle.base_bench.specs.declared.store_commits.TheConstants.{VERSION}
use Rattle.base_bench.proofs.Steps.{reopened_label}
use Rattle.base_bench.proofs.store_commits.reopened.Goals as goal

pub returns-in-Ok-clause-label : goal.returns-in-Ok-clause-label
returns-in-Ok-clause-label g c = told _ (λ _. IsLabelled VERSION (g.D.Disk.files c.close.result)) (λ fs is.
    let store = c.in-Ok.store in
    let committed = c.requires.committed.1 in
    let changes = c.requires.committed.0 in
    let three = opened_over c.args.log.now changes VERSION fs _ _ _ is committed c.in_ok-keep_log.ensures.stands.files c.in_ok-open_gate.ensures.set.files in
    let label = reopened_label c.args.log.now changes store.version VERSION fs store.len _ (g.D.Disk.files store.disk) (of_told _ fs AreEmpty is c.requires.empty).1 committed three c.in-Ok.ensures.stands in
    subst (λ (d : g.row.D.Denot). IsLabelled VERSION (g.D.Disk.files d)) (sym c.close.ensures) label)
