use Rattle.disk_base.proofs.DiskCalls.{OnlyIn-synced, others-done, others-failed}
use Rattle.disk_base.proofs.Times.{Elapses-call}
use Rattle.disk_base.proofs.memory_disks.MemDiskDisk.sync.Goals as goal

pub returns-then-ne-clause-time : goal.returns-then-ne-clause-time
returns-then-ne-clause-time c =
    Elapses-call c.args.self.now c.begin_change-passage.new.self c.begin_change-passage.ensures.moments c.begin_change-passage.ensures.steps

pub returns-clause-time : goal.returns-clause-time
returns-clause-time c =
    Elapses-call c.args.self.now (record c.begin_change-passage.new.self { files = c.sync.new.self })
    c.begin_change-passage.ensures.moments c.begin_change-passage.ensures.steps

pub returns-clause-durable : goal.returns-clause-durable
returns-clause-durable c = OnlyIn-synced _ _ c.sync.new.self c.args.f c.begin_change-passage.ensures.files c.sync.ensures.pending

pub returns-clause-others : goal.returns-clause-others
returns-clause-others c = others-done _ _ c.sync.new.self c.args.f _ c.begin_change-passage.ensures.files c.sync.ensures.pending

pub returns-then-ne-clause-others : goal.returns-then-ne-clause-others
returns-then-ne-clause-others c =
    others-failed c.args.self.now.files c.begin_change-passage.new.self.files c.args.f c.begin_change-passage.ensures.files
