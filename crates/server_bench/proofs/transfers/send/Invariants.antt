use Rattle.std.proofs.Common.{length}
use Rattle.server_bench.proofs.transfers.send.Given as goal

abbrev pub decreases-loop-output : goal.decreases-loop-output
decreases-loop-output l = length l.out
