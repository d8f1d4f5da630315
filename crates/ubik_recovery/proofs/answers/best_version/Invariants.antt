use Rattle.std.proofs.Common.{◌≡◌, drop}
use Rattle.ubik_types.specs.Version.{zero_version}
use Rattle.cell_model.specs.Polls.{best_version}
use Rattle.ubik_recovery.proofs.answers.best_version.Given as goal

abbrev pub invariant-loop-answer : goal.invariant-loop-answer
invariant-loop-answer l = best_version zero_version l.answers ≡ best_version l.best (drop l.answer-index l.answers)
