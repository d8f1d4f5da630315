use Rattle.pt_laws.proofs.Made.{holds_after, state_held}
use Rattle.pt_laws.proofs.laws.law_calls_lead_from_state_to_state.Goals as goal

pub returns-clause-records : goal.returns-clause-records
returns-clause-records c = holds_after

pub returns-clause-state : goal.returns-clause-state
returns-clause-state c = state_held
