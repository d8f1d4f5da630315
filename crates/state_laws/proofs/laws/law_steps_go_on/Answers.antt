use Rattle.state_laws.proofs.Waiting.{settled_calls, settled_comes_over, settled_halts, settled_line, step_comes_over}
use Rattle.state_laws.proofs.laws.law_steps_go_on.Goals as goal

pub returns : goal.returns
returns c = record { lapse = step_comes_over; holders = settled_comes_over; line = settled_line; calls = settled_calls; halts = settled_halts }
