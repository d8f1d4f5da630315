use Rattle.std.proofs.Common.{◌≡◌, take, string_bytes}
use Rattle.tool_help.specs.Answers.{spoken_of}
use Rattle.tool_help.proofs.answers.spoken_of.Given as goal

abbrev pub invariant-loop-operation : goal.invariant-loop-operation
invariant-loop-operation l = string_bytes l.text ≡ spoken_of l.word (take l.operation-index l.operation-items)
