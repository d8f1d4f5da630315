use Rattle.std.proofs.Common.{◌≡◌, ◌++◌, take}
use Rattle.std.specs.List.{flat_map}
use Rattle.ubik_log.specs.LogGrammar.{field}
use Rattle.ubik_log.proofs.writers.push_fields.Given as goal

abbrev pub invariant-loop-number : goal.invariant-loop-number
invariant-loop-number l = l.log.items ≡ l.fn.log.items ++ flat_map field (take l.number-index l.numbers)
