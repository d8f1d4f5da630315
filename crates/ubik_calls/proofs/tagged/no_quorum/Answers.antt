use Rattle.ubik_calls.proofs.Taken.{took_then}
use Rattle.ubik_calls.proofs.tagged.no_quorum.Goals as goal

pub returns-clause-found : goal.returns-clause-found
returns-clause-found c =
    rw c.applied_of-applied.ensures.back (took_then (took_then (took_then c.in_ok-now.ensures.found c.in_ok-until.ensures.found) c.in_ok-phase.ensures.found) c.in_ok-flag.ensures.found)
