use Rattle.std.proofs.Common.{◌≡◌, length}
use Rattle.vldb_entries.specs.Location.{placed}
use Rattle.vl_service.proofs.placing.placed.Given as goal

abbrev pub decreases-loop-rest : goal.decreases-loop-rest
decreases-loop-rest l = length l.rest

abbrev pub invariant-loop-rest : goal.invariant-loop-rest
invariant-loop-rest l = placed l.rest l.places ≡ placed l.sites l.fn.addresses
