use Rattle.std.proofs.Common.{length}
use Rattle.server_tests.proofs.replays.replay_item.Given as goal

abbrev pub decreases-loop-sending : goal.decreases-loop-sending
decreases-loop-sending g l = length l.out
