use Rattle.disk_base.proofs.DiskCalls.{Follows-cut, others-called, others-failed}
use Rattle.disk_base.proofs.Times.{Elapses-call, Elapses-ended}
use Rattle.disk_base.proofs.memory_disks.MemDiskDisk.cut.Goals as goal

pub returns-then-ne-clause-time : goal.returns-then-ne-clause-time
returns-then-ne-clause-time c =
    Elapses-call c.args.self.now c.begin_change.new.self c.begin_change.ensures.moments c.begin_change.ensures.steps

pub returns-clause-time : goal.returns-clause-time
returns-clause-time c =
    Elapses-ended c.args.self.now c.begin_change.new.self c.end.new.self
    c.begin_change.ensures.moments c.begin_change.ensures.steps c.end.ensures.moments c.end.ensures.steps

pub returns-clause-crash : goal.returns-clause-crash
returns-clause-crash c =
    rw c.end.ensures.files
    (Follows-cut c.args.self.now.files c.begin_change.new.self.files c.cut-cut.new.self c.args.f c.args.len c.cut-cut.result
    c.begin_change.ensures.files c.cut-cut.ensures.marked c.cut-cut.ensures.unmarked)

pub returns-clause-others : goal.returns-clause-others
returns-clause-others c =
    rw c.end.ensures.files
    (others-called c.args.self.now.files c.begin_change.new.self.files c.cut-cut.new.self c.args.f _ c.cut-cut.result
    c.begin_change.ensures.files c.cut-cut.ensures.marked c.cut-cut.ensures.unmarked)

pub returns-then-ne-clause-others : goal.returns-then-ne-clause-others
returns-then-ne-clause-others c = others-failed c.args.self.now.files c.begin_change.new.self.files c.args.f c.begin_change.ensures.files
