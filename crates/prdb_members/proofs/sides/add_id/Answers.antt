use Rattle.std.proofs.Common.{◌≤◌, ◌+◌, ℕ, List, ℤ, length, ap, subst, ◌∙◌}
use Rattle.std.specs.List.{Contains}
use Rattle.std.proofs.lemmas.Int.{to_z-of_z}
use Rattle.std.proofs.lemmas.Result.{err_from_is_err_and}
use Rattle.db_image.proofs.ReadSteps.{asks_none}
use Rattle.prdb_lists.proofs.Places.{list_at}
use Rattle.prdb_members.specs.Changes.{taken_for}
use Rattle.prdb_members.specs.Costs.{gain_cost}
use Rattle.prdb_members.proofs.Costs.{gain_taken, gain_written}
use Rattle.prdb_members.proofs.Places.{free_fault, gained_ok, list_err}
use Rattle.prdb_members.proofs.sides.add_id.Goals as goal

pub returns-in_err-more-clause-fault : goal.returns-in_err-more-clause-fault
returns-in_err-more-clause-fault g c =
    let p = err_from_is_err_and c.from_residual-in_err-more.result c.from_residual-in_err-more.ensures.1 in
    rw (p.1, p.2) (free_fault c.args.d.now.bytes c.args.place.now c.args.id c.in_err-more.field-0.0 c.in_err-more.ensures.fault)

pub returns-clause-bytes : goal.returns-clause-bytes
returns-clause-bytes g c =
    let fits = c.ranges.id in
    let placed_raw = c.in_ok-ids.ensures.placed in
    let placed = simp to_z-of_z at placed_raw in
    gained_ok c.write_list.result c.args.d.now.bytes c.more_for.new.d.bytes c.write_list.new.d.bytes c.args.place.now.found.number
    c.args.place.now.entry c.args.place.now.found.block
    (list_at c.args.place.now) c.args.id c.as_slice-ids.result.now c.as_slice.result.now c.in_ok-more.more.items c.as_slice-2.result.now
    c.as_slice.ensures.value c.as_slice-2.ensures.value
    (λ fresh. c.as_slice-ids.ensures.value ∙ placed fresh) c.in_ok-more.ensures.more c.in_ok-more.ensures.bytes c.write_list.ensures.bytes

pub returns-clause-fault : goal.returns-clause-fault
returns-clause-fault g c =
    let fits = c.ranges.id in
    let members_raw = c.in_ok-ids.ensures.members in
    let members = simp to_z-of_z at members_raw in
    list_err c.write_list.result
    (taken_for _ _) c.args.d.now.bytes c.more_for.new.d.bytes c.args.place.now c.args.id c.as_slice-ids.result.now c.in_ok-more.ensures.bytes
    c.as_slice-ids.ensures.ascending
    (λ x has. (members x).0 (subst (λ (l : List ℤ). Contains l x) c.as_slice-ids.ensures.value has)) c.write_list.ensures.fault

pub returns-in_err-ids-clause-cost : goal.returns-in_err-ids-clause-cost
returns-in_err-ids-clause-cost g c =
    asks_none (gain_cost c.args.d.now.layout (length c.args.place.now.listed.more.items)) (g.I.ImageRead.asked c.args.d.now.image)

pub returns-in_err-more-clause-cost : goal.returns-in_err-more-clause-cost
returns-in_err-more-clause-cost g c =
    gain_taken c.args.d.now.layout (length c.args.place.now.listed.more.items) (g.I.ImageRead.asked c.args.d.now.image)
    (g.I.ImageRead.asked c.more_for.new.d.image) c.more_for.ensures.cost

pub returns-clause-cost : goal.returns-clause-cost
returns-clause-cost g c =
    gain_written c.args.d.now.layout c.more_for.new.d.layout (length c.as_slice-2.result.now) (length c.in_ok-more.more.items)
    (length c.args.place.now.listed.more.items) (g.I.ImageRead.asked c.args.d.now.image) (g.I.ImageRead.asked c.more_for.new.d.image)
    (g.I.ImageRead.asked c.write_list.new.d.image) c.more_for.ensures.frame.layout (ap length c.as_slice-2.ensures.value)
    (subst (λ (l : List ℕ). length c.in_ok-more.more.items ≤ length l + 1) c.as_slice.ensures.value c.in_ok-more.ensures.few)
    c.more_for.ensures.cost c.write_list.ensures.cost
