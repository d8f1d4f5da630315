use Rattle.std.proofs.Common.{ℕ, List, replicate, arith}
use Rattle.disk_base.proofs.Heads.{head_read, length_front}
use Rattle.disk_base.proofs.mirrored_disks.read_head.Goals as goal

pub returns-in-Done-clause-head : goal.returns-in-Done-clause-head
returns-in-Done-clause-head g c =
    let zeros : List ℕ = replicate 64 0 in
    head_read _ _ _ _ _ _ c.min-there.ensures (length_front zeros _ (omega arith)) c.requires c.in-Done.ensures.bytes
