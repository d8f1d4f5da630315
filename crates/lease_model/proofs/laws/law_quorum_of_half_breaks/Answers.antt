use Rattle.lease_model.proofs.Breaks.{quorum_of_half}
use Rattle.lease_model.proofs.laws.law_quorum_of_half_breaks.Goals as goal

pub returns : goal.returns
returns c = quorum_of_half
