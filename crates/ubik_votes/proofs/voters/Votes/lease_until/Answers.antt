use Rattle.ubik_votes.proofs.Starts.{moments-take}
use Rattle.ubik_votes.proofs.voters.Votes.lease_until.Goals as goal

pub lease_end-requires-clause-starts : goal.lease_end-requires-clause-starts
lease_end-requires-clause-starts c = moments-take c.self.inside.servers c.self.inside.starts c.self.invariant.moments
