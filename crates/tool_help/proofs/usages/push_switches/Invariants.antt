use Rattle.std.proofs.Common.{◌≡◌, ◌++◌, take, string_bytes}
use Rattle.std.specs.List.{flat_map}
use Rattle.tool_help.specs.Usages.{shown}
use Rattle.tool_help.proofs.usages.push_switches.Given as goal

abbrev pub invariant-loop-parameter : goal.invariant-loop-parameter
invariant-loop-parameter l =
    string_bytes l.text ≡ string_bytes l.initial.text ++ flat_map (shown l.operation) (take l.parameter-index l.parameters)
