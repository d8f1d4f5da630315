use Rattle.std.proofs.Common.{rules, ◌≡◌, ◌∙◌, ℕ, List, Option, take, ap}
use Rattle.ubik_types.specs.Lease.{with_start}
use Rattle.ubik_votes.proofs.Starts.{take-with_start, length-with_start, moments-with_start}
use Rattle.ubik_votes.proofs.voters.Votes.beacon.Goals as goal

pub invariant_of-self : goal.invariant_of-self
invariant_of-self c = record {
  not_more = c.self.invariant.not_more;
  me = c.self.invariant.me;
  within = search rules;
  room = rw c.count.ensures (length-with_start _ _ _ ∙ c.self.invariant.room);
  moments = rw c.count.ensures (moments-with_start _ _ _ c.self.invariant.moments c.requires.moment.fits);
}

pub returns : goal.returns
returns c =
    let votes = c.answer.ensures.after in
    let starts : take c.self.inside.servers c.count.new.starts ≡ with_start (take c.self.inside.servers c.self.inside.starts) c.self.inside.me c.args.now = ap (λ (those : List (Option ℕ)). take c.self.inside.servers those) c.count.ensures ∙ take-with_start _ _ _ _ in
    rw (← c.self.view_is) cc
