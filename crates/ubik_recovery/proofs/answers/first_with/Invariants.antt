use Rattle.std.proofs.Common.{◌≡◌, ◌+◌, drop}
use Rattle.cell_model.specs.Polls.{first_with}
use Rattle.ubik_recovery.proofs.answers.first_with.Given as goal

abbrev pub invariant-loop-i : goal.invariant-loop-i
invariant-loop-i l = first_with l.version l.answers ≡ l.i + first_with l.version (drop l.i l.answers)
