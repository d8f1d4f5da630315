use Rattle.pt_laws.proofs.ToldStates.{state_told}
use Rattle.pt_laws.proofs.laws.law_image_tells_its_state.Goals as goal

pub returns : goal.returns
returns c = state_told
