use Rattle.ubik_calls.proofs.Taken.{took_then}
use Rattle.ubik_calls.proofs.tagged.debug_is.Goals as goal

pub returns-clause-found : goal.returns-clause-found
returns-clause-found c = took_then (took_then (took_then (took_then (took_then (took_then (took_then c.in_ok-host.ensures.found c.in_ok-number.ensures.found) c.in_ok-version.ensures.found) c.in_ok-phase.ensures.found) c.in_ok-number-2.ensures.found) c.in_ok-host-2.ensures.found) c.in_ok-host-3.ensures.found) c.in_ok-number-3.ensures.found
