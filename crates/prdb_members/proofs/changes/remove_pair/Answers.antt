use Rattle.std.proofs.Common.{ℕ, refl, ◌∙◌}
use Rattle.std.proofs.lemmas.Int.{to_z-of_z}
use Rattle.std.proofs.lemmas.Result.{err_from_is_err_and}
use Rattle.db_blocks.proofs.Scanned.{drafts_after, drafts_then}
use Rattle.prdb_members.proofs.Ends.{part_group_fault, part_member_fault, part_one_fault, part_two_err, parted_bytes, parted_holds, parted_ok, stands_so}
use Rattle.prdb_members.specs.Costs.{list_cost, lose_cost}
use Rattle.prdb_members.proofs.Costs.{PlaceCostsOf, leave_none, leave_read, leave_side, part_costs}
use Rattle.prdb_members.proofs.changes.remove_pair.Goals as goal

pub returns-in_err-of_member-clause-fault : goal.returns-in_err-of_member-clause-fault
returns-in_err-of_member-clause-fault g c =
    let fits_member = c.ranges.member in
    let fits_group = c.ranges.group in
    let raw = c.in_err-of_member.ensures.fault in
    let cause = simp to_z-of_z at raw in
    let p = err_from_is_err_and c.from_residual.result c.from_residual.ensures.1 in
    rw (p.1, p.2) (part_member_fault c.args.d.now.bytes c.args.member c.args.group c.in_err-of_member.field-0.0 cause)

pub returns-in_err-of_group-clause-fault : goal.returns-in_err-of_group-clause-fault
returns-in_err-of_group-clause-fault g c =
    let fits_member = c.ranges.member in
    let fits_group = c.ranges.group in
    let raw = c.in_err-of_group.ensures.fault in
    let cause = simp to_z-of_z at raw in
    let p = err_from_is_err_and c.from_residual-in_err-of_group.result c.from_residual-in_err-of_group.ensures.1 in
    rw (p.1, p.2)
    (part_group_fault c.args.d.now.bytes c.find_place.new.d.bytes c.args.member c.args.group c.in_err-of_group.field-0.0
    c.find_place.ensures.frame.same.bytes cause)

pub returns-in_err-remove_id-clause-fault : goal.returns-in_err-remove_id-clause-fault
returns-in_err-remove_id-clause-fault g c =
    let fits_member = c.ranges.member in
    let fits_group = c.ranges.group in
    let raw = c.in_err-remove_id.ensures.fault in
    let cause = simp to_z-of_z at raw in
    let p = err_from_is_err_and c.from_residual-in_err-remove_id.result c.from_residual-in_err-remove_id.ensures.1 in
    rw (p.1, p.2)
    (part_one_fault c.args.d.now.bytes c.find_place-2.new.d.bytes c.in_ok-of_member.of_member c.args.member c.args.group
    c.in_err-remove_id.field-0.0
    (c.find_place-2.ensures.frame.same.bytes ∙ c.find_place.ensures.frame.same.bytes) c.in_ok-of_member.ensures.found cause)

pub returns-in_err-remove_id-clause-frame : goal.returns-in_err-remove_id-clause-frame
returns-in_err-remove_id-clause-frame g c =
    let p = err_from_is_err_and c.from_residual-in_err-remove_id.result c.from_residual-in_err-remove_id.ensures.1 in
    rw (p.1, p.2) (drafts_after g.I.ImageRead c.args.d.now c.find_place.new.d c.remove_id.new.d _ _ c.find_place.ensures.frame
    (drafts_after g.I.ImageRead c.find_place.new.d c.find_place-2.new.d c.remove_id.new.d _ _ c.find_place-2.ensures.frame
    c.in_err-remove_id.ensures.frame))

pub returns-clause-fault : goal.returns-clause-fault
returns-clause-fault g c =
    let fits_member = c.ranges.member in
    let fits_group = c.ranges.group in
    let raw = c.remove_id-2.ensures.fault in
    let err = simp to_z-of_z at raw in
    let one_raw = c.in_ok-remove_id.ensures.bytes in
    let one = simp to_z-of_z at one_raw in
    let first_raw = c.in_ok-of_member.ensures.entry in
    let second_raw = c.in_ok-of_group.ensures.entry in
    part_two_err c.remove_id-2.result c.args.d.now.bytes c.find_place-2.new.d.bytes c.remove_id.new.d.bytes c.in_ok-of_member.of_member
    c.in_ok-of_group.of_group
    c.args.member c.args.group (c.find_place-2.ensures.frame.same.bytes ∙ c.find_place.ensures.frame.same.bytes)
    (simp to_z-of_z at first_raw) (simp to_z-of_z at second_raw) c.in_ok-of_member.ensures.found
    (stands_so c.args.d.now.bytes c.find_place.new.d.bytes c.in_ok-of_group.of_group c.find_place.ensures.frame.same.bytes
    c.in_ok-of_group.ensures.found) one err

pub returns-clause-bytes : goal.returns-clause-bytes
returns-clause-bytes g c =
    let fits_member = c.ranges.member in
    let fits_group = c.ranges.group in
    let two_raw = c.remove_id-2.ensures.bytes in
    let two = simp to_z-of_z at two_raw in
    let one_raw = c.in_ok-remove_id.ensures.bytes in
    let one = simp to_z-of_z at one_raw in
    let first_raw = c.in_ok-of_member.ensures.entry in
    let second_raw = c.in_ok-of_group.ensures.entry in
    parted_bytes c.remove_id-2.result c.args.d.now.bytes c.remove_id-2.new.d.bytes c.args.member c.args.group
    (parted_ok c.remove_id-2.result c.args.d.now.bytes c.find_place-2.new.d.bytes c.remove_id.new.d.bytes c.remove_id-2.new.d.bytes
    c.in_ok-of_member.of_member c.in_ok-of_group.of_group
    c.args.member c.args.group (c.find_place-2.ensures.frame.same.bytes ∙ c.find_place.ensures.frame.same.bytes)
    (simp to_z-of_z at first_raw) (simp to_z-of_z at second_raw) c.in_ok-of_member.ensures.found
    (stands_so c.args.d.now.bytes c.find_place.new.d.bytes c.in_ok-of_group.of_group c.find_place.ensures.frame.same.bytes
    c.in_ok-of_group.ensures.found)
    one two)

pub returns-clause-holds : goal.returns-clause-holds
returns-clause-holds g c =
    let fits_member = c.ranges.member in
    let fits_group = c.ranges.group in
    let two_raw = c.remove_id-2.ensures.bytes in
    let two = simp to_z-of_z at two_raw in
    let one_raw = c.in_ok-remove_id.ensures.bytes in
    let one = simp to_z-of_z at one_raw in
    let first_raw = c.in_ok-of_member.ensures.entry in
    let second_raw = c.in_ok-of_group.ensures.entry in
    parted_holds c.remove_id-2.result c.args.d.now.bytes c.remove_id-2.new.d.bytes c.args.member c.args.group
    (parted_ok c.remove_id-2.result c.args.d.now.bytes c.find_place-2.new.d.bytes c.remove_id.new.d.bytes c.remove_id-2.new.d.bytes
    c.in_ok-of_member.of_member c.in_ok-of_group.of_group
    c.args.member c.args.group (c.find_place-2.ensures.frame.same.bytes ∙ c.find_place.ensures.frame.same.bytes)
    (simp to_z-of_z at first_raw) (simp to_z-of_z at second_raw) c.in_ok-of_member.ensures.found
    (stands_so c.args.d.now.bytes c.find_place.new.d.bytes c.in_ok-of_group.of_group c.find_place.ensures.frame.same.bytes
    c.in_ok-of_group.ensures.found)
    one two)

pub returns-clause-frame : goal.returns-clause-frame
returns-clause-frame g c =
    drafts_after g.I.ImageRead c.args.d.now c.find_place.new.d c.remove_id-2.new.d _ _ c.find_place.ensures.frame
    (drafts_after g.I.ImageRead c.find_place.new.d c.find_place-2.new.d c.remove_id-2.new.d _ _ c.find_place-2.ensures.frame
    (drafts_then g.I.ImageRead c.find_place-2.new.d c.remove_id.new.d c.remove_id-2.new.d _ _ c.remove_id.ensures.frame
    c.remove_id-2.ensures.frame))

-- ---- costs

pub returns-in_err-of_member-clause-cost : goal.returns-in_err-of_member-clause-cost
returns-in_err-of_member-clause-cost g c =
    let fits_member = c.ranges.member in
    let fits_group = c.ranges.group in
    let a = g.I.ImageRead.asked c.args.d.now.image in
    let b = g.I.ImageRead.asked c.find_place.new.d.image in
    let was = c.args.d.now.bytes in
    let layout = c.args.d.now.layout in
    let len = c.args.d.now.len in
    let x = c.args.member in
    let y = c.args.group in
    let lost = λ (words : ℕ). lose_cost layout len in
    let raw = c.find_place.ensures.cost in
    let read : PlaceCostsOf was x a b = simp to_z-of_z at raw in
    part_costs was layout len x y a b b b b (leave_read was was x y x a b refl read) (leave_none was x y y list_cost b)
    (leave_none was x y x lost b) (leave_none was x y y lost b)

pub returns-in_err-of_group-clause-cost : goal.returns-in_err-of_group-clause-cost
returns-in_err-of_group-clause-cost g c =
    let fits_member = c.ranges.member in
    let fits_group = c.ranges.group in
    let a = g.I.ImageRead.asked c.args.d.now.image in
    let b = g.I.ImageRead.asked c.find_place.new.d.image in
    let was = c.args.d.now.bytes in
    let layout = c.args.d.now.layout in
    let len = c.args.d.now.len in
    let x = c.args.member in
    let y = c.args.group in
    let lost = λ (words : ℕ). lose_cost layout len in
    let raw = c.find_place.ensures.cost in
    let read : PlaceCostsOf was x a b = simp to_z-of_z at raw in
    let e = g.I.ImageRead.asked c.find_place-2.new.d.image in
    let more_raw = c.find_place-2.ensures.cost in
    let more : PlaceCostsOf c.find_place.new.d.bytes y b e = simp to_z-of_z at more_raw in
    part_costs was layout len x y a b e e e (leave_read was was x y x a b refl read)
    (leave_read was c.find_place.new.d.bytes x y y b e c.find_place.ensures.frame.same.bytes more) (leave_none was x y x lost e)
    (leave_none was x y y lost e)

pub returns-in_err-remove_id-clause-cost : goal.returns-in_err-remove_id-clause-cost
returns-in_err-remove_id-clause-cost g c =
    let fits_member = c.ranges.member in
    let fits_group = c.ranges.group in
    let a = g.I.ImageRead.asked c.args.d.now.image in
    let b = g.I.ImageRead.asked c.find_place.new.d.image in
    let was = c.args.d.now.bytes in
    let layout = c.args.d.now.layout in
    let len = c.args.d.now.len in
    let x = c.args.member in
    let y = c.args.group in
    let lost = λ (words : ℕ). lose_cost layout len in
    let raw = c.find_place.ensures.cost in
    let read : PlaceCostsOf was x a b = simp to_z-of_z at raw in
    let e = g.I.ImageRead.asked c.find_place-2.new.d.image in
    let more_raw = c.find_place-2.ensures.cost in
    let more : PlaceCostsOf c.find_place.new.d.bytes y b e = simp to_z-of_z at more_raw in
    let f = g.I.ImageRead.asked c.remove_id.new.d.image in
    let first_raw = c.in_ok-of_member.ensures.entry in
    let same = c.find_place-2.ensures.frame.same.layout ∙ c.find_place.ensures.frame.same.layout in
    let long = c.find_place-2.ensures.frame.same.len ∙ c.find_place.ensures.frame.same.len in
    part_costs was layout len x y a b e f f (leave_read was was x y x a b refl read)
    (leave_read was c.find_place.new.d.bytes x y y b e c.find_place.ensures.frame.same.bytes more)
    (leave_side was was c.in_ok-of_member.of_member x y x layout c.find_place-2.new.d.layout len c.find_place-2.new.d.len e f refl
    (simp to_z-of_z at first_raw) c.in_ok-of_member.ensures.found same long c.remove_id.ensures.cost)
    (leave_none was x y y lost f)

pub returns-clause-cost : goal.returns-clause-cost
returns-clause-cost g c =
    let fits_member = c.ranges.member in
    let fits_group = c.ranges.group in
    let a = g.I.ImageRead.asked c.args.d.now.image in
    let b = g.I.ImageRead.asked c.find_place.new.d.image in
    let was = c.args.d.now.bytes in
    let layout = c.args.d.now.layout in
    let len = c.args.d.now.len in
    let x = c.args.member in
    let y = c.args.group in
    let lost = λ (words : ℕ). lose_cost layout len in
    let raw = c.find_place.ensures.cost in
    let read : PlaceCostsOf was x a b = simp to_z-of_z at raw in
    let e = g.I.ImageRead.asked c.find_place-2.new.d.image in
    let more_raw = c.find_place-2.ensures.cost in
    let more : PlaceCostsOf c.find_place.new.d.bytes y b e = simp to_z-of_z at more_raw in
    let f = g.I.ImageRead.asked c.remove_id.new.d.image in
    let first_raw = c.in_ok-of_member.ensures.entry in
    let same = c.find_place-2.ensures.frame.same.layout ∙ c.find_place.ensures.frame.same.layout in
    let long = c.find_place-2.ensures.frame.same.len ∙ c.find_place.ensures.frame.same.len in
    let h = g.I.ImageRead.asked c.remove_id-2.new.d.image in
    let second_raw = c.in_ok-of_group.ensures.entry in
    part_costs was layout len x y a b e f h (leave_read was was x y x a b refl read)
    (leave_read was c.find_place.new.d.bytes x y y b e c.find_place.ensures.frame.same.bytes more)
    (leave_side was was c.in_ok-of_member.of_member x y x layout c.find_place-2.new.d.layout len c.find_place-2.new.d.len e f refl
    (simp to_z-of_z at first_raw) c.in_ok-of_member.ensures.found same long c.remove_id.ensures.cost)
    (leave_side was c.find_place.new.d.bytes c.in_ok-of_group.of_group x y y layout c.remove_id.new.d.layout len c.remove_id.new.d.len f h
    c.find_place.ensures.frame.same.bytes (simp to_z-of_z at second_raw) c.in_ok-of_group.ensures.found
    (c.remove_id.ensures.frame.layout ∙ same) (c.remove_id.ensures.len ∙ long) c.remove_id-2.ensures.cost)
