use Rattle.lease_model.proofs.Breaks.{skew_of_8}
use Rattle.lease_model.proofs.laws.law_skew_of_8_breaks.Goals as goal

pub returns : goal.returns
returns c = skew_of_8
