use Rattle.lease_model.proofs.Breaks.{votes_forgotten}
use Rattle.lease_model.proofs.laws.law_votes_forgotten_breaks.Goals as goal

pub returns : goal.returns
returns c = votes_forgotten
