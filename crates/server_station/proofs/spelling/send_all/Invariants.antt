use Rattle.std.proofs.Common.{length}
use Rattle.server_station.proofs.Sending.{Sent}
use Rattle.server_station.proofs.spelling.send_all.Given as goal

abbrev pub invariant-loop-output : goal.invariant-loop-output
invariant-loop-output l = Sent l.fn.askers l.fn.outputs l.out l.askers l.outputs

abbrev pub decreases-loop-output : goal.decreases-loop-output
decreases-loop-output l = length l.outputs
