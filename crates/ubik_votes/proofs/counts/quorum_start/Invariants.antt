use Rattle.std.proofs.Common.{◌≡◌, max, drop, length}
use Rattle.ubik_types.specs.Lease.{quorum_start}
use Rattle.ubik_votes.proofs.counts.quorum_start.Given as goal

abbrev pub invariant-loop-start : goal.invariant-loop-start
invariant-loop-start l =
    quorum_start (length l.starts) l.starts l.starts ≡ max l.best (quorum_start (length l.starts) l.starts (drop l.start-index l.starts))
