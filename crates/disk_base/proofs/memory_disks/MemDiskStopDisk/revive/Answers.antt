use Rattle.disk_base.proofs.DiskCalls.{left-alone}
use Rattle.disk_base.proofs.memory_disks.MemDiskStopDisk.revive.Goals as goal

pub returns-clause-left : goal.returns-clause-left
returns-clause-left c =
    left-alone c.disarm-fill.result c.args.self.now.files c.revive.new.self c.revive.ensures.left c.revive.ensures.pending
