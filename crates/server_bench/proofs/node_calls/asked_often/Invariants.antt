use Rattle.std.proofs.Common.{◌≤◌}
use Rattle.server_bench.proofs.node_calls.asked_often.Given as goal

abbrev pub invariant-loop-turn : goal.invariant-loop-turn
invariant-loop-turn g l = l.done ≤ l.turn
