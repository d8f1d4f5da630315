use Rattle.std.proofs.Common.{◌≡◌, length}
use Rattle.tool_help.specs.Answers.{has_part}
use Rattle.tool_help.proofs.answers.has_part.Given as goal

abbrev pub invariant-loop-rest : goal.invariant-loop-rest
invariant-loop-rest l = has_part l.word l.rest ≡ has_part l.word l.text

abbrev pub decreases-loop-rest : goal.decreases-loop-rest
decreases-loop-rest l = length l.rest
