use Rattle.ubik_calls.proofs.Written.{wrote_last, wrote_then}
use Rattle.ubik_calls.proofs.writing.put_debug.Goals as goal

pub returns : goal.returns
returns c = wrote_last _ _ _ _ _ _ (wrote_then (wrote_then (wrote_then (wrote_then (wrote_then (wrote_then c.in_ok-put_number.ensures c.in_ok-put_number-2.ensures) c.in_ok-put_version.ensures) c.in_ok-put_phase.ensures) c.in_ok-put_number-3.ensures) c.in_ok-put_number-4.ensures) c.in_ok-put_number-5.ensures) c.put_number-6.ensures
