use Rattle.std.proofs.Common.{◌≡◌, ◌++◌, length}
use Rattle.tool_bench.specs.Frames.{replies_of}
use Rattle.tool_bench.proofs.frames.answers_in.Given as goal

abbrev pub invariant-loop-rest : goal.invariant-loop-rest
invariant-loop-rest l = replies_of l.answers.items ++ l.rest ≡ l.fn.bytes

abbrev pub decreases-loop-rest : goal.decreases-loop-rest
decreases-loop-rest l = length l.rest
