use Rattle.std.proofs.Common.{◌≡◌, drop}
use Rattle.vos_tool.specs.Answers.{ascend}
use Rattle.vos_tool.proofs.answers.ascend.Given as goal

abbrev pub invariant-loop-entry : goal.invariant-loop-entry
invariant-loop-entry l = ascend l.fn.after l.entries ≡ ascend l.last (drop l.entry-index l.entries)
