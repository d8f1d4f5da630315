use Rattle.ubik_calls.proofs.Written.{wrote_last, wrote_then}
use Rattle.ubik_calls.proofs.writing.put_packet.Goals as goal

pub returns : goal.returns
returns c = rw (← c.kind_of.ensures) (wrote_last _ _ _ _ _ _ (wrote_then (wrote_then c.in_ok-put_number.ensures c.in_ok-put_number-2.ensures) c.in_ok-put_number-3.ensures) c.put_body.ensures)
