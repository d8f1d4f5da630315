use Rattle.std.proofs.Common.{take}
use Rattle.site_writes.specs.Site.{flight_in}
use Rattle.ubik_node.specs.Unanswered.{IsLeastOf, ids_of}
use Rattle.ubik_node.proofs.unanswered.least_id.Given as goal

abbrev pub invariant-loop-place : goal.invariant-loop-place
invariant-loop-place l = IsLeastOf l.least (ids_of (flight_in l.writes) (take l.place l.writes.waiting))
