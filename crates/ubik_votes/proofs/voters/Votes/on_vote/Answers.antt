use Rattle.std.proofs.Common.{rules, ◌≡◌, true, ◌∙◌, ℕ, List, Option, take, ap, sym}
use Rattle.ubik_types.specs.Lease.{with_start}
use Rattle.ubik_votes.proofs.Starts.{take-with_start, length-with_start, moments-with_start, counted-vote}
use Rattle.ubik_votes.proofs.voters.Votes.on_vote.Goals as goal

pub invariant_of-self : goal.invariant_of-self
invariant_of-self c = record {
  not_more = c.self.invariant.not_more;
  me = c.self.invariant.me;
  within = c.self.invariant.within;
  room = rw c.count.ensures (length-with_start _ _ _ ∙ c.self.invariant.room);
  moments = rw c.count.ensures (moments-with_start _ _ _ c.self.invariant.moments (search rules));
}

pub returns : goal.returns
returns c =
    let starts : take c.self.inside.servers c.count.new.starts ≡ with_start (take c.self.inside.servers c.self.inside.starts) c.args.from c.args.start = ap (λ (those : List (Option ℕ)). take c.self.inside.servers those) c.count.ensures ∙ take-with_start _ _ _ _ in
    let counts : c.counts.result ≡ true = search rules in
    let rule = sym c.counts.ensures.rule ∙ counts in
    let after = counted-vote c.self.inside.opened c.self.inside.me (take c.self.inside.servers c.self.inside.starts) (take c.self.inside.servers c.count.new.starts) c.args.from c.args.start c.args.yes (rw (← c.self.view_is) at rule) starts in
    rw (← c.self.view_is) cc
