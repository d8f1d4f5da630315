use Rattle.std.proofs.Common.{◌≡◌, ◌++◌, length}
use Rattle.std.specs.List.{All, flat_map}
use Rattle.ubik_log.specs.LogGrammar.{IsWithinImage}
use Rattle.ubik_log.specs.Records.{change_record}
use Rattle.ubik_log.proofs.codec.parse_records.Given as goal

abbrev pub invariant-loop-edit : goal.invariant-loop-edit
invariant-loop-edit l = (l.records ≡ flat_map change_record l.changes ++ l.rest) × All IsWithinImage l.changes

abbrev pub decreases-loop-edit : goal.decreases-loop-edit
decreases-loop-edit l = length l.rest
