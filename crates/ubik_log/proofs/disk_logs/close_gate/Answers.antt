use Rattle.disk_base.proofs.Runs.{widened}
use Rattle.ubik_log.proofs.TornGates.{either_open}
use Rattle.ubik_log.proofs.disk_logs.close_gate.Goals as goal

pub returns-clause-either : goal.returns-clause-either
returns-clause-either g c = λ log is_open only.
    widened g.D.Disk.steps g.D.Disk.left_since _ _ _ _ (either_open log is_open (g.D.Disk.may_leave c.args.disk.now) only) c.set_gate.ensures.moments
