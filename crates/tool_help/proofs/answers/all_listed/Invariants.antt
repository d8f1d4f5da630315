use Rattle.std.proofs.Common.{◌≡◌, take, string_bytes}
use Rattle.std.specs.List.{flat_map}
use Rattle.tool_help.specs.Answers.{listed}
use Rattle.tool_help.proofs.answers.all_listed.Given as goal

abbrev pub invariant-loop-operation : goal.invariant-loop-operation
invariant-loop-operation l = string_bytes l.text ≡ flat_map listed (take l.operation-index l.operation-items)
