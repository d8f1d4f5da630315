use Rattle.ubik_votes.proofs.Supported.{lease-rests}
use Rattle.ubik_votes.proofs.counts.lease_rests_on_greatest_start.Goals as goal

pub returns : goal.returns
returns c = lease-rests
