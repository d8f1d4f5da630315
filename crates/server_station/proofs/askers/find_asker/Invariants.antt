use Rattle.std.proofs.Common.{◌≡◌, drop}
use Rattle.server_station.specs.Askers.{asker_of}
use Rattle.server_station.proofs.askers.find_asker.Given as goal

-- who waits among those that are left is who waits among all
abbrev pub invariant-loop-asker : goal.invariant-loop-asker
invariant-loop-asker l = asker_of l.id (drop l.asker-index l.list) ≡ asker_of l.fn.id l.fn.list
