use Rattle.std.proofs.Common.{◌≡◌, ◌++◌, take}
use Rattle.std.specs.List.{flat_map}
use Rattle.ubik_log.specs.LogGrammar.{new_record}
use Rattle.ubik_log.specs.Records.{change_record}
use Rattle.ubik_log.proofs.codec.encode_log.Given as goal

abbrev pub invariant-loop-change : goal.invariant-loop-change
invariant-loop-change l = l.log.items ≡ new_record ++ flat_map change_record (take l.change-index l.changes)
