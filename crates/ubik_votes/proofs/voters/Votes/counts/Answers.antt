use Rattle.std.proofs.Common.{arith}
use Rattle.std.proofs.lemmas.Bool.Decides.{nat_tests}
use Rattle.ubik_votes.proofs.Starts.{start_of-take, moments-at, moment-from}
use Rattle.ubik_votes.proofs.voters.Votes.counts.Goals as goal

pub returns-then-self-start-clause-rule : goal.returns-then-self-start-clause-rule
returns-then-self-start-clause-rule c =
    let own = start_of-take c.self.inside.servers c.self.inside.starts c.self.inside.me c.self.invariant.me in
    let from_own = c.is_from.ensures in
    rw (← c.self.view_is) (rw own (grind (arith, nat_tests)))

pub returns-then-self-start-clause-moment : goal.returns-then-self-start-clause-moment
returns-then-self-start-clause-moment c =
    moment-from c.is_from.result c.args.start _ c.is_from.ensures (moments-at c.self.inside.starts c.self.inside.me c.self.invariant.moments)
