use Rattle.ubik_calls.proofs.Written.{wrote_last}
use Rattle.ubik_calls.proofs.writing.put_place.Goals as goal

pub returns : goal.returns
returns c = wrote_last _ _ _ _ _ _ c.in_ok-put_poll.ensures c.put_number.ensures
