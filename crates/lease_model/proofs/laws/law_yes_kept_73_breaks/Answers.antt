use Rattle.lease_model.proofs.Breaks.{yes_kept_73}
use Rattle.lease_model.proofs.laws.law_yes_kept_73_breaks.Goals as goal

pub returns : goal.returns
returns c = yes_kept_73
