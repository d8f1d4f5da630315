use Rattle.std.proofs.lemmas.Int.{to_z-of_z}
use Rattle.std.proofs.lemmas.Result.{err_from_is_err_and}
use Rattle.db_blocks.proofs.Scanned.{drafts_then}
use Rattle.prdb_lists.proofs.Written.{drafts_looks, drafts_so}
use Rattle.pt_service.proofs.Frames.{no_disk}
use Rattle.prdb_turns.proofs.Steps.{IsLeft, come_err, its_cause, leave_cause, move_cause, renumber_holds, renumber_ok}
use Rattle.prdb_turns.proofs.ids.renumber.Goals as goal

pub returns-in_err-its-clause-fault : goal.returns-in_err-its-clause-fault
returns-in_err-its-clause-fault g c =
    let p = err_from_is_err_and c.from_residual-in_err-its.result c.from_residual-in_err-its.ensures.1 in
    rw (p.1, p.2) (its_cause c.args.d.now.bytes c.make_whole.new.d.bytes _ _ c.in_err-its.field-0.0 c.in_ok-make_whole.ensures.bytes
    c.in_err-its.ensures.fault)

pub returns-in_err-give-clause-fault : goal.returns-in_err-give-clause-fault
returns-in_err-give-clause-fault g c =
    let old = c.ranges.old_id in
    let id = c.ranges.new_id in
    let p = err_from_is_err_and c.from_residual-in_err-give.result c.from_residual-in_err-give.ensures.1 in
    let ids = c.deref.ensures.value in
    let told = c.in_ok-its.ensures.found in
    let cause = c.in_err-give.ensures.fault in
    rw (p.1, p.2) (leave_cause c.args.d.now.bytes c.make_whole.new.d.bytes c.its_own.new.d.bytes c.args.old_id c.args.new_id
    c.in_ok-its.its.items c.in_err-give.field-0.0 c.in_ok-make_whole.ensures.bytes (simp to_z-of_z at told)
    c.its_own.ensures.frame.same.bytes (rw ids at cause))

pub returns-in_err-move_id-clause-fault : goal.returns-in_err-move_id-clause-fault
returns-in_err-move_id-clause-fault g c =
    let old = c.ranges.old_id in
    let id = c.ranges.new_id in
    let p = err_from_is_err_and c.from_residual-in_err-move_id.result c.from_residual-in_err-move_id.ensures.1 in
    let ids = c.deref.ensures.value in
    let told = c.in_ok-its.ensures.found in
    let gave = c.in_ok-give.ensures.bytes in
    let held = c.in_ok-give.ensures.holds in
    let cause = c.in_err-move_id.ensures.fault in
    let left : IsLeft c.args.d.now.bytes c.make_whole.new.d.bytes c.its_own.new.d.bytes c.give.new.d.bytes c.args.old_id
    c.in_ok-its.its.items = record {
      made = c.in_ok-make_whole.ensures.bytes;
      found = simp to_z-of_z at told;
      same = c.its_own.ensures.frame.same.bytes;
      gives = rw ids at gave;
    } in
    rw (p.1, p.2) (move_cause c.args.d.now.bytes c.make_whole.new.d.bytes c.its_own.new.d.bytes c.give.new.d.bytes c.args.old_id
    c.args.new_id c.in_ok-its.its.items c.in_err-move_id.field-0.0 left (rw ids at held) (simp to_z-of_z at cause))

pub returns-clause-bytes : goal.returns-clause-bytes
returns-clause-bytes g c =
    let old = c.ranges.old_id in
    let id = c.ranges.new_id in
    let ids = c.deref.ensures.value in
    let again = c.deref-2.ensures.value in
    let last = c.deref-3.ensures.value in
    let told = c.in_ok-its.ensures.found in
    let gave = c.in_ok-give.ensures.bytes in
    let moves = c.in_ok-move_id.ensures.bytes in
    let called = c.in_ok-back.ensures in
    let back = rw again at called in
    let given = c.give-2.ensures.bytes in
    let end = simp to_z-of_z at given in
    let left : IsLeft c.args.d.now.bytes c.make_whole.new.d.bytes c.its_own.new.d.bytes c.give.new.d.bytes c.args.old_id
    c.in_ok-its.its.items = record {
      made = c.in_ok-make_whole.ensures.bytes;
      found = simp to_z-of_z at told;
      same = c.its_own.ensures.frame.same.bytes;
      gives = rw ids at gave;
    } in
    renumber_ok c.give-2.result c.args.d.now.bytes c.make_whole.new.d.bytes c.its_own.new.d.bytes c.give.new.d.bytes
    c.move_id.new.d.bytes c.give-2.new.d.bytes c.args.old_id c.args.new_id c.in_ok-its.its.items c.in_ok-back.back.items left
    (simp to_z-of_z at moves) (simp to_z-of_z at back) (rw last at end)

pub returns-clause-holds : goal.returns-clause-holds
returns-clause-holds g c =
    let old = c.ranges.old_id in
    let id = c.ranges.new_id in
    let ids = c.deref.ensures.value in
    let again = c.deref-2.ensures.value in
    let last = c.deref-3.ensures.value in
    let told = c.in_ok-its.ensures.found in
    let gave = c.in_ok-give.ensures.bytes in
    let held = c.in_ok-give.ensures.holds in
    let moves = c.in_ok-move_id.ensures.holds in
    let called = c.in_ok-back.ensures in
    let back = rw again at called in
    let given = c.give-2.ensures.holds in
    let end = simp to_z-of_z at given in
    let left : IsLeft c.args.d.now.bytes c.make_whole.new.d.bytes c.its_own.new.d.bytes c.give.new.d.bytes c.args.old_id
    c.in_ok-its.its.items = record {
      made = c.in_ok-make_whole.ensures.bytes;
      found = simp to_z-of_z at told;
      same = c.its_own.ensures.frame.same.bytes;
      gives = rw ids at gave;
    } in
    renumber_holds c.give-2.result c.args.d.now.bytes c.make_whole.new.d.bytes c.its_own.new.d.bytes c.give.new.d.bytes
    c.move_id.new.d.bytes c.give-2.new.d.bytes c.args.old_id c.args.new_id c.in_ok-its.its.items c.in_ok-back.back.items left
    (rw ids at held) (simp to_z-of_z at moves) (simp to_z-of_z at back) (rw last at end)

pub returns-clause-fault : goal.returns-clause-fault
returns-clause-fault g c =
    let old = c.ranges.old_id in
    let id = c.ranges.new_id in
    let ids = c.deref.ensures.value in
    let again = c.deref-2.ensures.value in
    let last = c.deref-3.ensures.value in
    let told = c.in_ok-its.ensures.found in
    let gave = c.in_ok-give.ensures.bytes in
    let held = c.in_ok-give.ensures.holds in
    let moves = c.in_ok-move_id.ensures.holds in
    let called = c.in_ok-back.ensures in
    let back = rw again at called in
    let cause = c.give-2.ensures.fault in
    let end = simp to_z-of_z at cause in
    let left : IsLeft c.args.d.now.bytes c.make_whole.new.d.bytes c.its_own.new.d.bytes c.give.new.d.bytes c.args.old_id
    c.in_ok-its.its.items = record {
      made = c.in_ok-make_whole.ensures.bytes;
      found = simp to_z-of_z at told;
      same = c.its_own.ensures.frame.same.bytes;
      gives = rw ids at gave;
    } in
    come_err c.give-2.result c.args.d.now.bytes c.make_whole.new.d.bytes c.its_own.new.d.bytes c.give.new.d.bytes c.move_id.new.d.bytes
    c.args.old_id c.args.new_id c.in_ok-its.its.items c.in_ok-back.back.items left (rw ids at held) (simp to_z-of_z at moves)
    (simp to_z-of_z at back) (rw last at end)

pub returns-in_err-give-clause-frame : goal.returns-in_err-give-clause-frame
returns-in_err-give-clause-frame g c =
    let p = err_from_is_err_and c.from_residual-in_err-give.result c.from_residual-in_err-give.ensures.1 in
    rw (p.1, p.2) (drafts_then g.I.ImageRead c.args.d.now c.its_own.new.d c.give.new.d _ _
    (drafts_looks g.I.ImageRead c.args.d.now c.make_whole.new.d c.its_own.new.d _ _ c.make_whole.ensures.frame.drafts
    c.its_own.ensures.frame) c.in_err-give.ensures.frame)

pub returns-in_err-move_id-clause-frame : goal.returns-in_err-move_id-clause-frame
returns-in_err-move_id-clause-frame g c =
    let p = err_from_is_err_and c.from_residual-in_err-move_id.result c.from_residual-in_err-move_id.ensures.1 in
    rw (p.1, p.2) (drafts_then g.I.ImageRead c.args.d.now c.give.new.d c.move_id.new.d _ _
    (drafts_then g.I.ImageRead c.args.d.now c.its_own.new.d c.give.new.d _ _
    (drafts_looks g.I.ImageRead c.args.d.now c.make_whole.new.d c.its_own.new.d _ _ c.make_whole.ensures.frame.drafts
    c.its_own.ensures.frame) c.give.ensures.frame) c.in_err-move_id.ensures.frame)

pub returns-in_err-back-clause-frame : goal.returns-in_err-back-clause-frame
returns-in_err-back-clause-frame g c =
    let p = err_from_is_err_and c.from_residual-in_err-back.result c.from_residual-in_err-back.ensures.1 in
    drafts_so g.I.ImageRead c.args.d.now c.move_id.new.d _ _
    (drafts_then g.I.ImageRead c.args.d.now c.give.new.d c.move_id.new.d _ _
    (drafts_then g.I.ImageRead c.args.d.now c.its_own.new.d c.give.new.d _ _
    (drafts_looks g.I.ImageRead c.args.d.now c.make_whole.new.d c.its_own.new.d _ _ c.make_whole.ensures.frame.drafts
    c.its_own.ensures.frame) c.give.ensures.frame) c.move_id.ensures.frame)
    (λ h. absurd (no_disk c.from_residual-in_err-back.result p.0 p.1 p.2 h))

pub returns-clause-frame : goal.returns-clause-frame
returns-clause-frame g c =
    drafts_then g.I.ImageRead c.args.d.now c.move_id.new.d c.give-2.new.d _ _
    (drafts_then g.I.ImageRead c.args.d.now c.give.new.d c.move_id.new.d _ _
    (drafts_then g.I.ImageRead c.args.d.now c.its_own.new.d c.give.new.d _ _
    (drafts_looks g.I.ImageRead c.args.d.now c.make_whole.new.d c.its_own.new.d _ _ c.make_whole.ensures.frame.drafts
    c.its_own.ensures.frame) c.give.ensures.frame) c.move_id.ensures.frame) c.give-2.ensures.frame
