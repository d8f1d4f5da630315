use Rattle.std.proofs.Common.{length}
use Rattle.node_sessions.proofs.tellings.tell_step.Given as goal

abbrev pub decreases-loop-output : goal.decreases-loop-output
decreases-loop-output l = length l.out
