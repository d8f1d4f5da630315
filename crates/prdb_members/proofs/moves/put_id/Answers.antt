use Rattle.std.proofs.Common.{◌+◌, length, ap}
use Rattle.std.proofs.lemmas.Int.{to_z-of_z}
use Rattle.std.proofs.lemmas.Result.{err_from_is_err_and}
use Rattle.db_image.specs.declared.faults.RecordFault.TheVariants.{DiskFault}
use Rattle.db_blocks.proofs.Scanned.{drafts_after}
use Rattle.prdb_members.proofs.MoveCosts.{relist_read, relist_written}
use Rattle.prdb_members.proofs.MoveEnds.{drafts_err, drafts_ok, put_id_fault, put_id_ok, put_number}
use Rattle.prdb_members.proofs.moves.put_id.Goals as goal

pub returns-clause-bytes : goal.returns-clause-bytes
returns-clause-bytes g c =
    let fits_old = c.ranges.old_id in
    let fits_new = c.ranges.new_id in
    let entry_raw = c.in_ok-place.ensures.entry in
    let block_raw = c.with_id-place.ensures in
    let bytes_raw = c.in_ok-write_list.ensures.bytes in
    put_id_ok c.args.d.now.bytes c.find_place.new.d.bytes c.write_list.new.d.bytes c.in_ok-place.place c.args.old_id
    c.args.new_id c.with_id-place.result
    c.as_slice-ids.result.now c.as_slice-more.result.now c.find_place.ensures.frame.same.bytes
    (simp to_z-of_z at entry_raw) c.in_ok-place.ensures.found
    (simp to_z-of_z at block_raw) c.as_slice-ids.ensures.value c.as_slice-more.ensures.value (simp to_z-of_z at bytes_raw)

pub returns-clause-number : goal.returns-clause-number
returns-clause-number g c =
    let fits_old = c.ranges.old_id in
    let fits_new = c.ranges.new_id in
    let entry_raw = c.in_ok-place.ensures.entry in
    put_number c.args.d.now.bytes c.in_ok-place.place c.args.old_id (simp to_z-of_z at entry_raw) c.in_ok-place.ensures.found

pub returns-in_err-write_list-clause-fault : goal.returns-in_err-write_list-clause-fault
returns-in_err-write_list-clause-fault g c =
    let fits_old = c.ranges.old_id in
    let fits_new = c.ranges.new_id in
    let entry_raw = c.in_ok-place.ensures.entry in
    let p = err_from_is_err_and c.from_residual-in_err-write_list.result c.from_residual-in_err-write_list.ensures.1 in
    rw (p.1, p.2)
    (put_id_fault c.args.d.now.bytes c.find_place.new.d.bytes c.in_ok-place.place c.args.old_id
    c.as_slice-ids.result.now c.in_err-write_list.field-0.0 c.find_place.ensures.frame.same.bytes (simp to_z-of_z at entry_raw)
    c.in_ok-place.ensures.found c.as_slice-ids.ensures.value c.in_err-write_list.ensures.fault)

pub returns-in_err-write_list-clause-frame : goal.returns-in_err-write_list-clause-frame
returns-in_err-write_list-clause-frame g c =
    let p = err_from_is_err_and c.from_residual-in_err-write_list.result c.from_residual-in_err-write_list.ensures.1 in
    rw (p.1, p.2)
    (drafts_after g.I.ImageRead c.args.d.now c.find_place.new.d c.write_list.new.d _ _ c.find_place.ensures.frame
    (drafts_err g.I.ImageRead c.find_place.new.d c.write_list.new.d c.in_err-write_list.field-0.0 DiskFault
    c.in_err-write_list.ensures.frame))

pub returns-clause-frame : goal.returns-clause-frame
returns-clause-frame g c =
    drafts_after g.I.ImageRead c.args.d.now c.find_place.new.d c.write_list.new.d _ _ c.find_place.ensures.frame
    (drafts_ok g.I.ImageRead c.find_place.new.d c.write_list.new.d c.in_ok-write_list.field-0 (c.in_ok-place.place.found.number + 1)
    DiskFault c.in_ok-write_list.ensures.frame)

pub returns-in_err-place-clause-cost : goal.returns-in_err-place-clause-cost
returns-in_err-place-clause-cost g c =
    let fits = c.ranges.old_id in
    let raw = c.find_place.ensures.cost in
    relist_read c.args.d.now.bytes c.args.d.now.layout c.args.old_id (g.I.ImageRead.asked c.args.d.now.image)
    (g.I.ImageRead.asked c.find_place.new.d.image) (simp to_z-of_z at raw)

pub returns-in_err-write_list-clause-cost : goal.returns-in_err-write_list-clause-cost
returns-in_err-write_list-clause-cost g c =
    let fits = c.ranges.old_id in
    let raw = c.find_place.ensures.cost in
    let entry_raw = c.in_ok-place.ensures.entry in
    relist_written c.args.d.now.bytes c.in_ok-place.place c.args.d.now.layout c.find_place.new.d.layout c.args.old_id
    (length c.as_slice-more.result.now) (g.I.ImageRead.asked c.args.d.now.image) (g.I.ImageRead.asked c.find_place.new.d.image)
    (g.I.ImageRead.asked c.write_list.new.d.image) (simp to_z-of_z at entry_raw) c.in_ok-place.ensures.found
    (ap length c.as_slice-more.ensures.value) c.find_place.ensures.frame.same.layout (simp to_z-of_z at raw) c.write_list.ensures.cost

pub returns-clause-cost : goal.returns-clause-cost
returns-clause-cost g c =
    let fits = c.ranges.old_id in
    let raw = c.find_place.ensures.cost in
    let entry_raw = c.in_ok-place.ensures.entry in
    relist_written c.args.d.now.bytes c.in_ok-place.place c.args.d.now.layout c.find_place.new.d.layout c.args.old_id
    (length c.as_slice-more.result.now) (g.I.ImageRead.asked c.args.d.now.image) (g.I.ImageRead.asked c.find_place.new.d.image)
    (g.I.ImageRead.asked c.write_list.new.d.image) (simp to_z-of_z at entry_raw) c.in_ok-place.ensures.found
    (ap length c.as_slice-more.ensures.value) c.find_place.ensures.frame.same.layout (simp to_z-of_z at raw) c.write_list.ensures.cost
