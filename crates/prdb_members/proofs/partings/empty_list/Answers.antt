use Rattle.std.proofs.lemmas.Int.{to_z-of_z}
use Rattle.std.proofs.lemmas.Result.{err_from_is_err_and}
use Rattle.db_blocks.proofs.Scanned.{drafts_after, drafts_then}
use Rattle.prdb_members.proofs.PartingEnds.{empty_err, empty_ok, free_cause}
use Rattle.prdb_members.proofs.partings.empty_list.Goals as goal

pub returns-in_err-free_all-clause-fault : goal.returns-in_err-free_all-clause-fault
returns-in_err-free_all-clause-fault g c =
    let fits = c.ranges.entry in
    let entry_raw = c.in_ok-place.ensures.entry in
    let p = err_from_is_err_and c.from_residual-in_err-free_all.result c.from_residual-in_err-free_all.ensures.1 in
    rw (p.1, p.2)
    (free_cause c.args.d.now.bytes c.find_place.new.d.bytes c.in_ok-place.place c.args.entry c.as_slice.result.now
    c.in_err-free_all.field-0.0 c.find_place.ensures.frame.same.bytes (simp to_z-of_z at entry_raw) c.in_ok-place.ensures.found
    c.as_slice.ensures.value c.in_err-free_all.ensures.fault)

pub returns-clause-bytes : goal.returns-clause-bytes
returns-clause-bytes g c =
    let fits = c.ranges.entry in
    let entry_raw = c.in_ok-place.ensures.entry in
    empty_ok c.write_list.result c.args.d.now.bytes c.find_place.new.d.bytes c.free_all.new.d.bytes c.write_list.new.d.bytes
    c.in_ok-place.place c.args.entry c.as_slice.result.now c.find_place.ensures.frame.same.bytes (simp to_z-of_z at entry_raw)
    c.in_ok-place.ensures.found c.as_slice.ensures.value c.in_ok-free_all.ensures.bytes c.write_list.ensures.bytes

pub returns-clause-fault : goal.returns-clause-fault
returns-clause-fault g c =
    let fits = c.ranges.entry in
    let entry_raw = c.in_ok-place.ensures.entry in
    empty_err c.write_list.result c.args.d.now.bytes c.find_place.new.d.bytes c.free_all.new.d.bytes c.in_ok-place.place c.args.entry
    c.as_slice.result.now c.find_place.ensures.frame.same.bytes (simp to_z-of_z at entry_raw) c.in_ok-place.ensures.found
    c.as_slice.ensures.value c.in_ok-free_all.ensures.bytes c.write_list.ensures.fault

pub returns-clause-frame : goal.returns-clause-frame
returns-clause-frame g c =
    drafts_after g.I.ImageRead c.args.d.now c.find_place.new.d c.write_list.new.d _ _ c.find_place.ensures.frame
    (drafts_then g.I.ImageRead c.find_place.new.d c.free_all.new.d c.write_list.new.d _ _ c.in_ok-free_all.ensures.frame
    c.write_list.ensures.frame)
