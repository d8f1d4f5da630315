use Rattle.ubik_calls.proofs.Taken.{took_then}
use Rattle.ubik_calls.proofs.bodies.beacon.Goals as goal

pub returns-clause-found : goal.returns-clause-found
returns-clause-found c = took_then (took_then (took_then c.in_ok-number.ensures.found c.in_ok-flag.ensures.found) c.in_ok-flag-2.ensures.found) c.in_ok-version.ensures.found
