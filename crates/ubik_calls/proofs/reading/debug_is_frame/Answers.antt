use Rattle.std.proofs.Common.{refl}
use Rattle.ubik_calls.proofs.Taken.{behind_all, took_then}
use Rattle.ubik_calls.proofs.reading.debug_is_frame.Goals as goal

pub returns-clause-found : goal.returns-clause-found
returns-clause-found c = behind_all _ _ _ _ _ (took_then c.in_ok-number.ensures.found c.in_ok-is.ensures.found) c.in_ok-end.ensures.done refl
