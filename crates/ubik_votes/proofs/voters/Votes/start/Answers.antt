use Rattle.std.proofs.Common.{ℕ, Option, None, take, replicate}
use Rattle.std.proofs.lemmas.List.{take-replicate}
use Rattle.ubik_types.specs.declared.limits.TheConstants.{MAXSERVERS}
use Rattle.ubik_votes.specs.Answers.{vote_state}
use Rattle.ubik_votes.proofs.Starts.{fresh-view}
use Rattle.ubik_votes.proofs.voters.Votes.start.Goals as goal

pub returns : goal.returns
returns c =
    let none : Option ℕ = None in
    fresh-view c.args.n c.args.me c.args.now (vote_state c.fresh.result) (take c.args.n (replicate MAXSERVERS none)) c.fresh.ensures (take-replicate c.args.n MAXSERVERS none c.requires.servers)
