use Rattle.ubik_calls.proofs.Taken.{took_then}
use Rattle.ubik_calls.proofs.reading.packet.Goals as goal

pub returns-clause-found : goal.returns-clause-found
returns-clause-found c = rw c.in_ok-body.ensures.kind (took_then (took_then (took_then c.in_ok-kind.ensures.found c.in_ok-from.ensures.found) c.in_ok-to.ensures.found) c.in_ok-body.ensures.found)
