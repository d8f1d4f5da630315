use Rattle.lease_model.proofs.Exclude.{leases_exclude}
use Rattle.lease_model.proofs.laws.law_leases_exclude.Goals as goal

pub returns : goal.returns
returns c = leases_exclude
