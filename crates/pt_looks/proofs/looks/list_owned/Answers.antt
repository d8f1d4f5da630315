use Rattle.std.proofs.Common.{length, refl, arith}
use Rattle.std.proofs.lemmas.Int.{to_z-of_z}
use Rattle.pt_looks.proofs.Counted.{owned_few}
use Rattle.pt_looks.proofs.Ended.{owned_ends, owned_refused}
use Rattle.pt_looks.proofs.Many.{err_many, long_same, no_disk_fault}
use Rattle.db_blocks.proofs.Scanned.{looks_so}
use Rattle.pt_looks.proofs.looks.list_owned.Goals as goal

pub returns-in_default-clause-meant : goal.returns-in_default-clause-meant
returns-in_default-clause-meant g c =
    let fits = c.ranges.id in
    let found = c.in_ok-ids.ensures.found in
    let none = rw c.in_default.is at found in
    owned_refused c.args.d.now.bytes c.args.id _ (simp to_z-of_z at none) refl

pub returns-clause-meant : goal.returns-clause-meant
returns-clause-meant g c =
    let fits = c.ranges.id in
    let found = c.in_ok-ids.ensures.found in
    let list = rw c.in-Some.is at found in
    owned_ends c.tell_ids.result c.args.d.now.bytes c.args.id c.in-Some.ids.items (simp to_z-of_z at list) c.tell_ids.ensures.told

pub returns-clause-fault : goal.returns-clause-fault
returns-clause-fault g c =
    let fits = c.ranges.id in
    let found = c.in_ok-ids.ensures.found in
    let list = rw c.in-Some.is at found in
    let same = c.owned.ensures.frame.same in
    err_many c.tell_ids.result c.args.d.now.bytes (length c.in-Some.ids.items) c.tell_ids.ensures.fault
    (owned_few c.args.d.now.bytes c.owned.new.d.len c.args.id c.in-Some.ids.items
    (long_same c.args.d.now.bytes c.owned.new.d.bytes c.owned.new.d.len same.bytes c.len.ensures.told)
    (omega (arith, same.len, c.requires)) (simp to_z-of_z at list))

pub returns-clause-frame : goal.returns-clause-frame
returns-clause-frame g c =
    looks_so g.I.ImageRead c.args.d.now c.owned.new.d _ _ c.owned.ensures.frame
    (λ h. absurd (no_disk_fault c.tell_ids.result _ c.tell_ids.ensures.fault h))
