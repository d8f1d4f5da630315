use Rattle.vl_calls.proofs.Again.{begins_none}
use Rattle.vl_calls.proofs.laws.no_call_begins_another.Goals as goal

pub returns : goal.returns
returns c = begins_none
