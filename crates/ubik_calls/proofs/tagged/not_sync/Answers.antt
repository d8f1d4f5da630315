use Rattle.ubik_calls.proofs.Taken.{took_then}
use Rattle.ubik_calls.proofs.tagged.not_sync.Goals as goal

pub returns-clause-found : goal.returns-clause-found
returns-clause-found c = took_then c.in_ok-host.ensures.found c.in_ok-number.ensures.found
