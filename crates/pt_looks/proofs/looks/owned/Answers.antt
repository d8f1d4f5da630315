use Rattle.std.proofs.Common.{◌≡◌, pos, arith}
use Rattle.std.specs.Ordering.{int_eq}
use Rattle.std.proofs.lemmas.Bool.{false_from_ne_true}
use Rattle.std.proofs.lemmas.Bool.Decides.{Decides-int_eq}
use Rattle.std.proofs.lemmas.Int.{ints, to_z-of_z}
use Rattle.pt_looks.proofs.Costs.{owned_costs}
use Rattle.pt_looks.proofs.Owned.{unowned, walked_ok}
use Rattle.pt_looks.proofs.looks.owned.Goals as goal

pub returns-then-id-ne0-clause-found : goal.returns-then-id-ne0-clause-found
returns-then-id-ne0-clause-found g c =
    let fits = c.ranges.id in
    let found = c.owned_ids.ensures.found in
    walked_ok c.owned_ids.result (λ ids. ids.items) c.args.d.now.bytes c.args.id
    (false_from_ne_true (int_eq c.args.id (pos 0))
    (λ is. let same : c.args.id ≡ pos 0 = (Decides-int_eq c.args.id (pos 0)).0 is in omega (arith, ints)))
    (simp to_z-of_z at found)

pub returns-clause-found : goal.returns-clause-found
returns-clause-found g c =
    let fits = c.ranges.id in
    let none : c.args.id ≡ pos 0 = omega (arith, ints) in
    rw none (unowned c.args.d.now.bytes c.in_ok-ids.ids.items c.in_ok-ids.ensures.found)

pub returns-then-id-ne0-clause-cost : goal.returns-then-id-ne0-clause-cost
returns-then-id-ne0-clause-cost g c =
    let fits = c.ranges.id in
    let costs = c.owned_ids.ensures.cost in
    λ other. owned_costs g.I.ImageRead c.args.id c.args.d.now c.owned_ids.new.d (simp to_z-of_z at costs)
