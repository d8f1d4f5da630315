use Rattle.std.proofs.Common.{ℕ, List, replicate, arith}
use Rattle.page_file.proofs.Reading.{length_front}
use Rattle.incoming_file.proofs.Reading.{incoming_head_read}
use Rattle.incoming_file.proofs.reads.incoming_head.Goals as goal

pub returns-in-Done-clause-head : goal.returns-in-Done-clause-head
returns-in-Done-clause-head g c =
    let zeros : List ℕ = replicate 64 0 in
    incoming_head_read _ _ _ _ _ c.min-there.ensures (length_front zeros _ (omega arith)) c.requires c.in-Done.ensures.bytes
