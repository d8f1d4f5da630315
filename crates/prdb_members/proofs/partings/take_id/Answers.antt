use Rattle.std.proofs.lemmas.Int.{to_z-of_z}
use Rattle.prdb_members.proofs.PartingEnds.{take_err, take_ok}
use Rattle.prdb_members.proofs.partings.take_id.Goals as goal

pub returns-clause-bytes : goal.returns-clause-bytes
returns-clause-bytes g c =
    let fits_entry = c.ranges.entry in
    let fits_id = c.ranges.id in
    let raw = c.remove_id.ensures.bytes in
    let entry_raw = c.in_ok-place.ensures.entry in
    take_ok c.remove_id.result c.args.d.now.bytes c.find_place.new.d.bytes c.remove_id.new.d.bytes c.in_ok-place.place c.args.entry
    c.args.id
    c.find_place.ensures.frame.same.bytes (simp to_z-of_z at entry_raw) c.in_ok-place.ensures.found (simp to_z-of_z at raw)

pub returns-clause-fault : goal.returns-clause-fault
returns-clause-fault g c =
    let fits_entry = c.ranges.entry in
    let fits_id = c.ranges.id in
    let raw = c.remove_id.ensures.fault in
    take_err c.remove_id.result c.args.d.now.bytes c.find_place.new.d.bytes c.in_ok-place.place c.args.entry c.args.id
    c.find_place.ensures.frame.same.bytes c.in_ok-place.ensures.found (simp to_z-of_z at raw)
