use Rattle.state_laws.proofs.Waiting.{turn_alone, turn_asked, turn_then, turns_rest}
use Rattle.state_laws.proofs.laws.law_turns_go_in_line.Goals as goal

pub returns : goal.returns
returns c = record { rest = turns_rest; alone = turn_alone; goes_on = turn_then; asked = turn_asked }
