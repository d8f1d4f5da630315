use Rattle.pt_laws.proofs.ToldStates.{empty_holds}
use Rattle.pt_laws.proofs.laws.law_empty_holds_the_first_state.Goals as goal

pub returns : goal.returns
returns c = empty_holds
