use Rattle.std.proofs.Common.{length}
use Rattle.server_tests.proofs.replays.replay.Given as goal

abbrev pub decreases-loop-item : goal.decreases-loop-item
decreases-loop-item g l = length l.journal.held.items
