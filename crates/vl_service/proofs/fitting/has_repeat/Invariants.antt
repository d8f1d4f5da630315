use Rattle.std.proofs.Common.{◌≡◌, length}
use Rattle.vldb_entries.specs.Location.{has_repeat}
use Rattle.vl_service.proofs.fitting.has_repeat.Given as goal

abbrev pub decreases-loop-rest : goal.decreases-loop-rest
decreases-loop-rest l = length l.rest

abbrev pub invariant-loop-rest : goal.invariant-loop-rest
invariant-loop-rest l = has_repeat l.rest ≡ has_repeat l.sites
