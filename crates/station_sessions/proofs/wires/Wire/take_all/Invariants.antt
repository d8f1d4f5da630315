use Rattle.std.proofs.Common.{length}
use Rattle.station_sessions.proofs.wires.Wire.take_all.Given as goal

abbrev pub decreases-loop-sending : goal.decreases-loop-sending
decreases-loop-sending g l = length l.out
