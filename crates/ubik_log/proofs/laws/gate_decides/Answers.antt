use Rattle.ubik_log.proofs.Gates.{other_gate_is_discarded, open_gate_decides, closed_log_decides, opened_log_is_committed}
use Rattle.ubik_log.proofs.laws.gate_decides.Goals as goal

pub returns : goal.returns
returns c = record {
  other = other_gate_is_discarded;
  at_open = open_gate_decides;
  at_closed = closed_log_decides;
  opened = opened_log_is_committed;
}
