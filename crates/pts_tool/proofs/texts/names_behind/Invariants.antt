use Rattle.std.proofs.Common.{◌≡◌, ◌++◌, take}
use Rattle.pts_tool.specs.Texts.{names_text}
use Rattle.pts_tool.proofs.texts.names_behind.Given as goal

abbrev pub invariant-loop-name : goal.invariant-loop-name
invariant-loop-name l = l.text.items ≡ l.initial.text.items ++ names_text (take l.name-index l.name-items)
