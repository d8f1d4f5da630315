use Rattle.std.proofs.Common.{◌≡◌, length}
use Rattle.command_lines.specs.Cuts.{is_passed_over}
use Rattle.command_lines.proofs.cuts.is_passed_over.Given as goal

abbrev pub invariant-loop-rest : goal.invariant-loop-rest
invariant-loop-rest l = is_passed_over l.rest ≡ is_passed_over l.line

abbrev pub decreases-loop-rest : goal.decreases-loop-rest
decreases-loop-rest l = length l.rest
