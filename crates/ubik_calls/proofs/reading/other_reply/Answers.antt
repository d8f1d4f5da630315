use Rattle.ubik_calls.proofs.Taken.{reply_all}
use Rattle.ubik_calls.proofs.reading.other_reply.Goals as goal

pub returns-clause-found : goal.returns-clause-found
returns-clause-found c = reply_all _ _ _ _ _ c.in_ok-reply.ensures.found c.in_ok-end.ensures.done c.in_ok-reply.ensures.tag
