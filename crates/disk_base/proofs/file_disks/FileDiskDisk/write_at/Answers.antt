use Rattle.std.proofs.Common.{length}
use Rattle.disk_base.specs.Crash.{Torn}
use Rattle.disk_base.proofs.Idle.{Torn-idle, Follows-idle, LeavesOthers-idle}
use Rattle.disk_base.proofs.file_disks.FileDiskDisk.write_at.Goals as goal

pub returns-clause-crash : goal.returns-clause-crash
returns-clause-crash c = Follows-idle (Torn c.args.at (length c.args.bytes.now)) (Torn-idle c.args.at (length c.args.bytes.now)) (λ _. Unit {0}) c.args.f

pub returns-clause-others : goal.returns-clause-others
returns-clause-others c = LeavesOthers-idle (λ _. Unit {0}) c.args.f
