use Rattle.disk_base.proofs.Runs.{others_joined, others_same}
use Rattle.disk_base.proofs.mirrored_disks.take_in.Goals as goal

pub returns-in-Done-clause-others : goal.returns-in-Done-clause-others
returns-in-Done-clause-others g c =
    let left = g.D.Disk.may_leave in
    let reads = c.in_ok-bytes.ensures.reads.crash in
    others_joined c.args.f (left c.args.disk.now) (left c.read_in.new.disk) (left c.settle.new.disk)
    (others_same c.args.f (left c.args.disk.now) (left c.read_in.new.disk) reads.no_more reads.no_less) c.settle.ensures.syncs.change.others
