use Rattle.disk_base.proofs.Idle.{LeavesOthers-idle}
use Rattle.disk_base.proofs.file_disks.FileDiskDisk.sync.Goals as goal

pub returns-clause-others : goal.returns-clause-others
returns-clause-others c = LeavesOthers-idle (λ _. Unit {0}) c.args.f
