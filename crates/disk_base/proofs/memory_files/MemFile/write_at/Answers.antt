use Rattle.std.proofs.Common.{◌≡◌, length, rules}
use Rattle.disk_base.specs.declared.touches.Touch.TheVariants.{Wrote}
use Rattle.disk_base.specs.Files.{laid}
use Rattle.disk_base.specs.Undos.{touches_in}
use Rattle.disk_base.proofs.Touched.{MayBe-wrote}
use Rattle.disk_base.proofs.Undoing.{undone-write, all_undone-pushed, MayBe-pushed, fits-pushed, fits-write}
use Rattle.disk_base.proofs.memory_files.MemFile.write_at.Goals as goal

pub invariant_of-self-2-clause-may_be : goal.invariant_of-self-2-clause-may_be
invariant_of-self-2-clause-may_be c =
    let old = c.args.self.now in
    let undo = c.in_ok-undo.undo in
    let bytes = c.args.bytes.now in
    let begins = c.requires.begins in
    let touch : undo.touch ≡ Wrote c.args.at (length bytes) = search rules in
    rw (c.in_ok-push.ensures.items, c.lay.ensures.bytes)
    (MayBe-pushed old.undos.items undo old.bytes.items (laid old.bytes.items c.args.at bytes)
    (undone-write undo old.bytes.items bytes c.args.at begins touch (search rules) (search rules))
    (rw touch (MayBe-wrote _ (touches_in old.undos.items) old.bytes.items bytes c.args.at old.may_be begins)))

pub invariant_of-self-2-clause-undo_has_room : goal.invariant_of-self-2-clause-undo_has_room
invariant_of-self-2-clause-undo_has_room c =
    let old = c.args.self.now in
    let undo = c.in_ok-undo.undo in
    rw (c.in_ok-push.ensures.items)
    (fits-pushed old.undos.items undo old.room old.undo_has_room
    (fits-write undo old.bytes.items old.room (length c.args.bytes.now) c.args.at c.requires.fits (search rules) (search rules)))

pub returns-clause-synced : goal.returns-clause-synced
returns-clause-synced c =
    let old = c.args.self.now in
    let undo = c.in_ok-undo.undo in
    let bytes = c.args.bytes.now in
    rw (c.in_ok-push.ensures.items, c.lay.ensures.bytes)
    (all_undone-pushed old.undos.items undo old.bytes.items (laid old.bytes.items c.args.at bytes)
    (undone-write undo old.bytes.items bytes c.args.at c.requires.begins (search rules) (search rules) (search rules)))
