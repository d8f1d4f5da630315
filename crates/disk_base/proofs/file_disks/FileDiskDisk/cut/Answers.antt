use Rattle.disk_base.specs.Crash.{CutShort}
use Rattle.disk_base.proofs.Idle.{CutShort-idle, Follows-idle, LeavesOthers-idle}
use Rattle.disk_base.proofs.file_disks.FileDiskDisk.cut.Goals as goal

pub returns-clause-crash : goal.returns-clause-crash
returns-clause-crash c = Follows-idle (CutShort c.args.len) (CutShort-idle c.args.len) (λ _. Unit {0}) c.args.f

pub returns-clause-others : goal.returns-clause-others
returns-clause-others c = LeavesOthers-idle (λ _. Unit {0}) c.args.f
