use Rattle.disk_base.proofs.Runs.{widened}
use Rattle.ubik_log.proofs.TornGates.{either_kept}
use Rattle.ubik_log.proofs.disk_logs.open_gate.Goals as goal

pub returns-clause-either : goal.returns-clause-either
returns-clause-either g c = λ log changes version committed only.
    widened g.D.Disk.steps g.D.Disk.left_since _ _ _ _ (either_kept log changes version committed (g.D.Disk.may_leave c.args.disk.now) only) c.set_gate.ensures.moments
