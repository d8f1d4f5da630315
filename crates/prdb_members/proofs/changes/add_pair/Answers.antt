use Rattle.std.proofs.Common.{Result, Ok, Err, ap, ◌∙◌}
use Rattle.std.specs.Prelude.{IsErrOf}
use Rattle.std.proofs.lemmas.Int.{to_z-of_z}
use Rattle.std.proofs.lemmas.Result.{err_from_is_err_and}
use Rattle.db_image.specs.declared.faults.RecordFault.{RecordFault}
use Rattle.db_image.specs.declared.faults.RecordFault.TheVariants.{DiskFault}
use Rattle.db_blocks.proofs.Scanned.{drafts_after, looks_then, drafts_then}
use Rattle.db_chains.proofs.Results.{image_cause}
use Rattle.prdb_lists.specs.declared.sides.Place.{Place}
use Rattle.prdb_lists.proofs.Written.{cause_same, drafts_looks, drafts_so}
use Rattle.prdb_members.specs.Costs.{gain_cost}
use Rattle.prdb_members.specs.Sides.{HasEntry}
use Rattle.prdb_members.proofs.Costs.{PlaceCostsOf, free_part, free_side, gain_side, join_costs, place_part}
use Rattle.prdb_members.proofs.Ends.{join_group_fault, join_member_fault, join_one_fault, join_two_err, joined_bytes, joined_holds, joined_ok, stands_so}
use Rattle.prdb_members.proofs.changes.add_pair.Goals as goal

-- a fault is the same one in an answer of another type
abbrev fault_or : {T : Type 0} → RecordFault → Result T RecordFault → RecordFault
fault_or none (Ok x) = none
fault_or none (Err fault) = fault

abbrev answer_of : (T : Type 0) → RecordFault → Result T RecordFault
answer_of T fault = Err fault

err_of : (T U : Type 0) (e f : RecordFault) → IsErrOf {T = T} {E = RecordFault} (Err e) f → IsErrOf {T = U} {E = RecordFault} (Err e) f
err_of T U e f is = ap (answer_of U) (ap (fault_or e) is)

pub returns-in_err-make_whole-clause-fault : goal.returns-in_err-make_whole-clause-fault
returns-in_err-make_whole-clause-fault g c =
    let p = err_from_is_err_and c.from_residual.result c.from_residual.ensures.1 in
    rw (p.1, p.2) (image_cause c.args.d.now.bytes _ c.in_err-make_whole.field-0.0 c.in_err-make_whole.ensures.fault)

pub returns-in_err-of_member-clause-fault : goal.returns-in_err-of_member-clause-fault
returns-in_err-of_member-clause-fault g c =
    let fits_member = c.ranges.member in
    let fits_group = c.ranges.group in
    let raw = c.in_err-of_member.ensures.fault in
    let cause = simp to_z-of_z at raw in
    let p = err_from_is_err_and c.from_residual-in_err-of_member.result c.from_residual-in_err-of_member.ensures.1 in
    rw (p.1, p.2)
    (join_member_fault c.args.d.now.bytes c.make_whole.new.d.bytes c.args.member c.args.group c.in_err-of_member.field-0.0
    c.in_ok-make_whole.ensures.bytes cause)

pub returns-in_err-of_member-clause-frame : goal.returns-in_err-of_member-clause-frame
returns-in_err-of_member-clause-frame g c =
    let p = err_from_is_err_and c.from_residual-in_err-of_member.result c.from_residual-in_err-of_member.ensures.1 in
    rw (p.1, p.2) (drafts_so g.I.ImageRead c.args.d.now c.find_place.new.d _ _
    (drafts_looks g.I.ImageRead c.args.d.now c.make_whole.new.d c.find_place.new.d _ _ c.in_ok-make_whole.ensures.frame.drafts
    c.in_err-of_member.ensures.frame)
    (err_of (Unit {0}) Place c.in_err-of_member.field-0.0 DiskFault))

pub returns-in_err-of_group-clause-fault : goal.returns-in_err-of_group-clause-fault
returns-in_err-of_group-clause-fault g c =
    let fits_member = c.ranges.member in
    let fits_group = c.ranges.group in
    let raw = c.in_err-of_group.ensures.fault in
    let cause = simp to_z-of_z at raw in
    let p = err_from_is_err_and c.from_residual-in_err-of_group.result c.from_residual-in_err-of_group.ensures.1 in
    rw (p.1, p.2)
    (join_group_fault c.args.d.now.bytes c.make_whole.new.d.bytes c.args.member c.args.group c.in_err-of_group.field-0.0
    c.in_ok-make_whole.ensures.bytes
    (cause_same c.make_whole.new.d.bytes c.find_place.new.d.bytes
    (HasEntry c.args.group) c.in_err-of_group.field-0.0 c.find_place.ensures.frame.same.bytes cause))

pub returns-in_err-of_group-clause-frame : goal.returns-in_err-of_group-clause-frame
returns-in_err-of_group-clause-frame g c =
    let p = err_from_is_err_and c.from_residual-in_err-of_group.result c.from_residual-in_err-of_group.ensures.1 in
    rw (p.1, p.2) (drafts_so g.I.ImageRead c.args.d.now c.find_place-2.new.d _ _
    (drafts_looks g.I.ImageRead c.args.d.now c.make_whole.new.d c.find_place-2.new.d _ _ c.in_ok-make_whole.ensures.frame.drafts
    (looks_then g.I.ImageRead c.make_whole.new.d c.find_place.new.d c.find_place-2.new.d _ _ c.find_place.ensures.frame
    c.in_err-of_group.ensures.frame))
    (err_of (Unit {0}) Place c.in_err-of_group.field-0.0 DiskFault))

pub returns-in_err-add_id-clause-frame : goal.returns-in_err-add_id-clause-frame
returns-in_err-add_id-clause-frame g c =
    let p = err_from_is_err_and c.from_residual-in_err-add_id.result c.from_residual-in_err-add_id.ensures.1 in
    rw (p.1, p.2) (drafts_then g.I.ImageRead c.args.d.now c.make_whole.new.d c.add_id.new.d _ _ c.in_ok-make_whole.ensures.frame.drafts
    (drafts_after g.I.ImageRead c.make_whole.new.d c.find_place.new.d c.add_id.new.d _ _ c.find_place.ensures.frame
    (drafts_after g.I.ImageRead c.find_place.new.d c.find_place-2.new.d c.add_id.new.d _ _ c.find_place-2.ensures.frame
    c.in_err-add_id.ensures.frame)))

pub returns-in_err-add_id-clause-fault : goal.returns-in_err-add_id-clause-fault
returns-in_err-add_id-clause-fault g c =
    let fits_member = c.ranges.member in
    let fits_group = c.ranges.group in
    let raw = c.in_err-add_id.ensures.fault in
    let cause = simp to_z-of_z at raw in
    let found_raw = c.in_ok-of_member.ensures.found in
    let p = err_from_is_err_and c.from_residual-in_err-add_id.result c.from_residual-in_err-add_id.ensures.1 in
    rw (p.1, p.2)
    (join_one_fault c.args.d.now.bytes c.make_whole.new.d.bytes c.find_place-2.new.d.bytes c.in_ok-of_member.of_member c.args.member
    c.args.group c.in_err-add_id.field-0.0
    c.in_ok-make_whole.ensures.bytes
    (c.find_place-2.ensures.frame.same.bytes ∙ c.find_place.ensures.frame.same.bytes) found_raw cause)

pub returns-clause-fault : goal.returns-clause-fault
returns-clause-fault g c =
    let fits_member = c.ranges.member in
    let fits_group = c.ranges.group in
    let raw = c.add_id-2.ensures.fault in
    let err = simp to_z-of_z at raw in
    let one_raw = c.in_ok-add_id.ensures.bytes in
    let one = simp to_z-of_z at one_raw in
    let first_raw = c.in_ok-of_member.ensures.entry in
    let second_raw = c.in_ok-of_group.ensures.entry in
    join_two_err c.add_id-2.result c.args.d.now.bytes c.make_whole.new.d.bytes c.find_place-2.new.d.bytes c.add_id.new.d.bytes
    c.in_ok-of_member.of_member c.in_ok-of_group.of_group
    c.args.member c.args.group c.in_ok-make_whole.ensures.bytes
    (c.find_place-2.ensures.frame.same.bytes ∙ c.find_place.ensures.frame.same.bytes)
    (simp to_z-of_z at first_raw) (simp to_z-of_z at second_raw) c.in_ok-of_member.ensures.found
    (stands_so c.make_whole.new.d.bytes c.find_place.new.d.bytes c.in_ok-of_group.of_group c.find_place.ensures.frame.same.bytes
    c.in_ok-of_group.ensures.found) one err

pub returns-clause-bytes : goal.returns-clause-bytes
returns-clause-bytes g c =
    let fits_member = c.ranges.member in
    let fits_group = c.ranges.group in
    let two_raw = c.add_id-2.ensures.bytes in
    let two = simp to_z-of_z at two_raw in
    let one_raw = c.in_ok-add_id.ensures.bytes in
    let one = simp to_z-of_z at one_raw in
    let first_raw = c.in_ok-of_member.ensures.entry in
    let second_raw = c.in_ok-of_group.ensures.entry in
    joined_bytes c.add_id-2.result c.args.d.now.bytes c.add_id-2.new.d.bytes c.args.member c.args.group
    (joined_ok c.add_id-2.result c.args.d.now.bytes c.make_whole.new.d.bytes c.find_place-2.new.d.bytes c.add_id.new.d.bytes
    c.add_id-2.new.d.bytes c.in_ok-of_member.of_member c.in_ok-of_group.of_group
    c.args.member c.args.group c.in_ok-make_whole.ensures.bytes
    (c.find_place-2.ensures.frame.same.bytes ∙ c.find_place.ensures.frame.same.bytes)
    (simp to_z-of_z at first_raw) (simp to_z-of_z at second_raw) c.in_ok-of_member.ensures.found
    (stands_so c.make_whole.new.d.bytes c.find_place.new.d.bytes c.in_ok-of_group.of_group c.find_place.ensures.frame.same.bytes
    c.in_ok-of_group.ensures.found)
    one two)

pub returns-clause-holds : goal.returns-clause-holds
returns-clause-holds g c =
    let fits_member = c.ranges.member in
    let fits_group = c.ranges.group in
    let two_raw = c.add_id-2.ensures.bytes in
    let two = simp to_z-of_z at two_raw in
    let one_raw = c.in_ok-add_id.ensures.bytes in
    let one = simp to_z-of_z at one_raw in
    let first_raw = c.in_ok-of_member.ensures.entry in
    let second_raw = c.in_ok-of_group.ensures.entry in
    joined_holds c.add_id-2.result c.args.d.now.bytes c.add_id-2.new.d.bytes c.args.member c.args.group
    (joined_ok c.add_id-2.result c.args.d.now.bytes c.make_whole.new.d.bytes c.find_place-2.new.d.bytes c.add_id.new.d.bytes
    c.add_id-2.new.d.bytes c.in_ok-of_member.of_member c.in_ok-of_group.of_group
    c.args.member c.args.group c.in_ok-make_whole.ensures.bytes
    (c.find_place-2.ensures.frame.same.bytes ∙ c.find_place.ensures.frame.same.bytes)
    (simp to_z-of_z at first_raw) (simp to_z-of_z at second_raw) c.in_ok-of_member.ensures.found
    (stands_so c.make_whole.new.d.bytes c.find_place.new.d.bytes c.in_ok-of_group.of_group c.find_place.ensures.frame.same.bytes
    c.in_ok-of_group.ensures.found)
    one two)

pub returns-clause-frame : goal.returns-clause-frame
returns-clause-frame g c =
    drafts_then g.I.ImageRead c.args.d.now c.make_whole.new.d c.add_id-2.new.d _ _ c.in_ok-make_whole.ensures.frame.drafts
    (drafts_after g.I.ImageRead c.make_whole.new.d c.find_place.new.d c.add_id-2.new.d _ _ c.find_place.ensures.frame
    (drafts_after g.I.ImageRead c.find_place.new.d c.find_place-2.new.d c.add_id-2.new.d _ _ c.find_place-2.ensures.frame
    (drafts_then g.I.ImageRead c.find_place-2.new.d c.add_id.new.d c.add_id-2.new.d _ _ c.add_id.ensures.frame c.add_id-2.ensures.frame)))

-- ---- costs

pub returns-in_err-make_whole-clause-cost : goal.returns-in_err-make_whole-clause-cost
returns-in_err-make_whole-clause-cost g c =
    let a = g.I.ImageRead.asked c.args.d.now.image in
    let b = g.I.ImageRead.asked c.make_whole.new.d.image in
    let was = c.args.d.now.bytes in
    let layout = c.args.d.now.layout in
    join_costs was layout c.args.member c.args.group a b b b b b c.make_whole.ensures.frame.cost (free_part was c.args.member b)
    (free_part was c.args.group b) (free_side was c.args.member (gain_cost layout) b) (free_side was c.args.group (gain_cost layout) b)

pub returns-in_err-of_member-clause-cost : goal.returns-in_err-of_member-clause-cost
returns-in_err-of_member-clause-cost g c =
    let fits_member = c.ranges.member in
    let a = g.I.ImageRead.asked c.args.d.now.image in
    let b = g.I.ImageRead.asked c.make_whole.new.d.image in
    let e = g.I.ImageRead.asked c.find_place.new.d.image in
    let was = c.args.d.now.bytes in
    let layout = c.args.d.now.layout in
    let raw = c.find_place.ensures.cost in
    let read : PlaceCostsOf c.make_whole.new.d.bytes c.args.member b e = simp to_z-of_z at raw in
    join_costs was layout c.args.member c.args.group a b e e e e c.make_whole.ensures.frame.cost
    (place_part was c.make_whole.new.d.bytes c.args.member b e c.in_ok-make_whole.ensures.bytes read)
    (free_part was c.args.group e) (free_side was c.args.member (gain_cost layout) e) (free_side was c.args.group (gain_cost layout) e)

pub returns-in_err-of_group-clause-cost : goal.returns-in_err-of_group-clause-cost
returns-in_err-of_group-clause-cost g c =
    let fits_member = c.ranges.member in
    let fits_group = c.ranges.group in
    let a = g.I.ImageRead.asked c.args.d.now.image in
    let b = g.I.ImageRead.asked c.make_whole.new.d.image in
    let e = g.I.ImageRead.asked c.find_place.new.d.image in
    let f = g.I.ImageRead.asked c.find_place-2.new.d.image in
    let was = c.args.d.now.bytes in
    let layout = c.args.d.now.layout in
    let raw = c.find_place.ensures.cost in
    let read : PlaceCostsOf c.make_whole.new.d.bytes c.args.member b e = simp to_z-of_z at raw in
    let more_raw = c.find_place-2.ensures.cost in
    let more : PlaceCostsOf c.find_place.new.d.bytes c.args.group e f = simp to_z-of_z at more_raw in
    join_costs was layout c.args.member c.args.group a b e f f f c.make_whole.ensures.frame.cost
    (place_part was c.make_whole.new.d.bytes c.args.member b e c.in_ok-make_whole.ensures.bytes read)
    (place_part was c.find_place.new.d.bytes c.args.group e f
    (c.find_place.ensures.frame.same.bytes ∙ c.in_ok-make_whole.ensures.bytes) more)
    (free_side was c.args.member (gain_cost layout) f) (free_side was c.args.group (gain_cost layout) f)

pub returns-in_err-add_id-clause-cost : goal.returns-in_err-add_id-clause-cost
returns-in_err-add_id-clause-cost g c =
    let fits_member = c.ranges.member in
    let fits_group = c.ranges.group in
    let a = g.I.ImageRead.asked c.args.d.now.image in
    let b = g.I.ImageRead.asked c.make_whole.new.d.image in
    let e = g.I.ImageRead.asked c.find_place.new.d.image in
    let f = g.I.ImageRead.asked c.find_place-2.new.d.image in
    let h = g.I.ImageRead.asked c.add_id.new.d.image in
    let was = c.args.d.now.bytes in
    let layout = c.args.d.now.layout in
    let raw = c.find_place.ensures.cost in
    let read : PlaceCostsOf c.make_whole.new.d.bytes c.args.member b e = simp to_z-of_z at raw in
    let more_raw = c.find_place-2.ensures.cost in
    let more : PlaceCostsOf c.find_place.new.d.bytes c.args.group e f = simp to_z-of_z at more_raw in
    let first_raw = c.in_ok-of_member.ensures.entry in
    join_costs was layout c.args.member c.args.group a b e f h h c.make_whole.ensures.frame.cost
    (place_part was c.make_whole.new.d.bytes c.args.member b e c.in_ok-make_whole.ensures.bytes read)
    (place_part was c.find_place.new.d.bytes c.args.group e f
    (c.find_place.ensures.frame.same.bytes ∙ c.in_ok-make_whole.ensures.bytes) more)
    (gain_side was c.make_whole.new.d.bytes c.in_ok-of_member.of_member c.args.member layout c.find_place-2.new.d.layout f h
    c.in_ok-make_whole.ensures.bytes (simp to_z-of_z at first_raw) c.in_ok-of_member.ensures.found
    (c.find_place-2.ensures.frame.same.layout ∙ c.find_place.ensures.frame.same.layout ∙ c.in_ok-make_whole.ensures.frame.drafts.layout)
    c.add_id.ensures.cost)
    (free_side was c.args.group (gain_cost layout) h)

pub returns-clause-cost : goal.returns-clause-cost
returns-clause-cost g c =
    let fits_member = c.ranges.member in
    let fits_group = c.ranges.group in
    let a = g.I.ImageRead.asked c.args.d.now.image in
    let b = g.I.ImageRead.asked c.make_whole.new.d.image in
    let e = g.I.ImageRead.asked c.find_place.new.d.image in
    let f = g.I.ImageRead.asked c.find_place-2.new.d.image in
    let h = g.I.ImageRead.asked c.add_id.new.d.image in
    let i = g.I.ImageRead.asked c.add_id-2.new.d.image in
    let was = c.args.d.now.bytes in
    let layout = c.args.d.now.layout in
    let raw = c.find_place.ensures.cost in
    let read : PlaceCostsOf c.make_whole.new.d.bytes c.args.member b e = simp to_z-of_z at raw in
    let more_raw = c.find_place-2.ensures.cost in
    let more : PlaceCostsOf c.find_place.new.d.bytes c.args.group e f = simp to_z-of_z at more_raw in
    let first_raw = c.in_ok-of_member.ensures.entry in
    let second_raw = c.in_ok-of_group.ensures.entry in
    let same = c.find_place-2.ensures.frame.same.layout ∙ c.find_place.ensures.frame.same.layout
    ∙ c.in_ok-make_whole.ensures.frame.drafts.layout in
    join_costs was layout c.args.member c.args.group a b e f h i c.make_whole.ensures.frame.cost
    (place_part was c.make_whole.new.d.bytes c.args.member b e c.in_ok-make_whole.ensures.bytes read)
    (place_part was c.find_place.new.d.bytes c.args.group e f
    (c.find_place.ensures.frame.same.bytes ∙ c.in_ok-make_whole.ensures.bytes) more)
    (gain_side was c.make_whole.new.d.bytes c.in_ok-of_member.of_member c.args.member layout c.find_place-2.new.d.layout f h
    c.in_ok-make_whole.ensures.bytes (simp to_z-of_z at first_raw) c.in_ok-of_member.ensures.found same c.add_id.ensures.cost)
    (gain_side was c.make_whole.new.d.bytes c.in_ok-of_group.of_group c.args.group layout c.add_id.new.d.layout h i
    c.in_ok-make_whole.ensures.bytes (simp to_z-of_z at second_raw)
    (stands_so c.make_whole.new.d.bytes c.find_place.new.d.bytes c.in_ok-of_group.of_group c.find_place.ensures.frame.same.bytes
    c.in_ok-of_group.ensures.found)
    (c.add_id.ensures.frame.layout ∙ same) c.add_id-2.ensures.cost)
