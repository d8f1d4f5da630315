use Rattle.std.proofs.Common.{rules, ◌≡◌, ◌∙◌, ◌==◌, position}
use Rattle.ubik_types.specs.declared.hosts.Host.{Host}
use Rattle.ubik_types.proofs.HostOrder.{position-from_place, place-finds}
use Rattle.ubik_types.proofs.hosts.Cell.index.Goals as goal

pub returns-clause-found : goal.returns-clause-found
returns-clause-found c = place-finds c.args.self.now c.args.host c.place_of.result (search rules)

pub returns-clause-only : goal.returns-clause-only
returns-clause-only c = λ i at.
    let is : c.place_of.result ≡ position (λ (other : Host). other.0 == c.args.host.0) c.args.self.now = search rules in
    is ∙ position-from_place c.args.self.now i c.args.host (rw (← c.self.view_is) c.self.invariant.ascending) at
