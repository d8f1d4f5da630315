use Rattle.pt_turns.proofs.Whole.{turned_holds}
use Rattle.pt_turns.proofs.laws.law_turn_leaves_the_state_after_it.Goals as goal

pub returns : goal.returns
returns c = turned_holds
