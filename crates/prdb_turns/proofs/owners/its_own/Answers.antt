use Rattle.std.proofs.Common.{ap, ◌∙◌, ◌++◌, List, ℤ}
use Rattle.std.proofs.lemmas.Int.{to_z-of_z}
use Rattle.prdb_turns.proofs.Giving.{own_found}
use Rattle.prdb_turns.proofs.owners.its_own.Goals as goal

pub returns-clause-found : goal.returns-clause-found
returns-clause-found g c =
    let fits = c.ranges.owner in
    let order = c.in_ok-its.ensures.found in
    let list = c.in_ok-users.ensures.found in
    own_found c.args.d.now.bytes c.owned_in_order.new.d.bytes c.args.owner c.in_ok-its.its.items c.in_ok-users.users.items
    c.extend_from_slice.new.self.items c.owned_in_order.ensures.frame.same.bytes (simp to_z-of_z at order) (simp to_z-of_z at list)
    (c.in_ok-extend_from_slice.ensures.items ∙ ap (λ (l : List ℤ). c.in_ok-its.its.items ++ l) c.deref.ensures.value)
