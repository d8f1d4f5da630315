use Rattle.std.proofs.Common.{◌≡◌, ◌++◌, take}
use Rattle.pts_tool.specs.Texts.{rows}
use Rattle.pts_tool.proofs.texts.rows_behind.Given as goal

abbrev pub invariant-loop-entry : goal.invariant-loop-entry
invariant-loop-entry l = l.text.items ≡ l.initial.text.items ++ rows (take l.entry-index l.entries)
