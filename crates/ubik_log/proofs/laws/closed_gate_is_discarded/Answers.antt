use Rattle.ubik_log.proofs.OneReading.{closed_gate_is_discarded}
use Rattle.ubik_log.proofs.laws.closed_gate_is_discarded.Goals as goal

pub returns : goal.returns
returns c = closed_gate_is_discarded
