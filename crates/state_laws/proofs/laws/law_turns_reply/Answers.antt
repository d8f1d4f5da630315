use Rattle.state_laws.proofs.Turning.{turn_is}
use Rattle.state_laws.proofs.laws.law_turns_reply.Goals as goal

pub returns : goal.returns
returns c = turn_is
