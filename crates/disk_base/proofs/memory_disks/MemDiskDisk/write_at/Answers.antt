use Rattle.disk_base.proofs.DiskCalls.{Follows-write, others-called, others-failed}
use Rattle.disk_base.proofs.Times.{Elapses-call, Elapses-ended}
use Rattle.disk_base.proofs.memory_disks.MemDiskDisk.write_at.Goals as goal

pub returns-then-eq-clause-time : goal.returns-then-eq-clause-time
returns-then-eq-clause-time c =
    Elapses-call c.args.self.now c.begin_change-passage.new.self c.begin_change-passage.ensures.moments c.begin_change-passage.ensures.steps

pub returns-then-eq-2-clause-time : goal.returns-then-eq-2-clause-time
returns-then-eq-2-clause-time c =
    Elapses-call c.args.self.now (record c.begin_change-passage.new.self { files = c.write_at-written.new.self })
    c.begin_change-passage.ensures.moments c.begin_change-passage.ensures.steps

pub returns-then-eq-2-clause-crash : goal.returns-then-eq-2-clause-crash
returns-then-eq-2-clause-crash c =
    Follows-write c.args.self.now.files c.begin_change-passage.new.self.files c.write_at-written.new.self c.args.f c.args.at _ c.write_at-written.result
    c.requires.begins c.begin_change-passage.ensures.files c.write_at-written.ensures.marked c.write_at-written.ensures.unmarked

pub returns-clause-time : goal.returns-clause-time
returns-clause-time c =
    Elapses-ended c.args.self.now c.begin_change-passage.new.self c.end.new.self
    c.begin_change-passage.ensures.moments c.begin_change-passage.ensures.steps c.end.ensures.moments c.end.ensures.steps

pub returns-clause-crash : goal.returns-clause-crash
returns-clause-crash c =
    rw c.end.ensures.files
    (Follows-write c.args.self.now.files c.begin_change-passage.new.self.files c.write_at-written.new.self c.args.f c.args.at _ c.write_at-written.result
    c.requires.begins c.begin_change-passage.ensures.files c.write_at-written.ensures.marked c.write_at-written.ensures.unmarked)

pub returns-then-eq-2-clause-others : goal.returns-then-eq-2-clause-others
returns-then-eq-2-clause-others c =
    others-called c.args.self.now.files c.begin_change-passage.new.self.files c.write_at-written.new.self c.args.f _ c.write_at-written.result
    c.begin_change-passage.ensures.files c.write_at-written.ensures.marked c.write_at-written.ensures.unmarked

pub returns-clause-others : goal.returns-clause-others
returns-clause-others c =
    rw c.end.ensures.files
    (others-called c.args.self.now.files c.begin_change-passage.new.self.files c.write_at-written.new.self c.args.f _ c.write_at-written.result
    c.begin_change-passage.ensures.files c.write_at-written.ensures.marked c.write_at-written.ensures.unmarked)

pub returns-then-eq-clause-others : goal.returns-then-eq-clause-others
returns-then-eq-clause-others c =
    others-failed c.args.self.now.files c.begin_change-passage.new.self.files c.args.f c.begin_change-passage.ensures.files
