use Rattle.std.proofs.Common.{◌≡◌, length, map, take}
use Rattle.ubik_types.specs.declared.limits.TheConstants.{MAXSERVERS}
use Rattle.ubik_types.specs.Lease.{is_from}
use Rattle.ubik_votes.proofs.counts.is_supported.Given as goal

abbrev pub invariant-loop-i : goal.invariant-loop-i
invariant-loop-i l =
    (length l.set ≡ MAXSERVERS) × (take l.i l.set ≡ map (is_from l.least) (take l.i l.starts))
