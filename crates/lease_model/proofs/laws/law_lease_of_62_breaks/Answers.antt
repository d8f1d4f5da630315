use Rattle.lease_model.proofs.Breaks.{lease_of_62}
use Rattle.lease_model.proofs.laws.law_lease_of_62_breaks.Goals as goal

pub returns : goal.returns
returns c = lease_of_62
