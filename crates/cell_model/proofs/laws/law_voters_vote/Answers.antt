use Rattle.cell_model.proofs.Voters.{voters_vote}
use Rattle.cell_model.proofs.laws.law_voters_vote.Goals as goal

pub returns : goal.returns
returns c = voters_vote
