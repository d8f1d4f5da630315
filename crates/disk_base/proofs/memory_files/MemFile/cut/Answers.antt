use Rattle.std.proofs.Common.{◌≡◌, take, rules}
use Rattle.disk_base.specs.declared.touches.Touch.TheVariants.{Cut}
use Rattle.disk_base.specs.Undos.{touches_in}
use Rattle.disk_base.proofs.Touched.{MayBe-cut}
use Rattle.disk_base.proofs.Undoing.{undone-cut, all_undone-pushed, MayBe-pushed, fits-pushed, fits-cut}
use Rattle.disk_base.proofs.memory_files.MemFile.cut.Goals as goal

pub invariant_of-self-2-clause-may_be : goal.invariant_of-self-2-clause-may_be
invariant_of-self-2-clause-may_be c =
    let old = c.args.self.now in
    let undo = c.in_ok-undo.undo in
    let touch : undo.touch ≡ Cut c.args.len = search rules in
    rw (c.in_ok-push.ensures.items, c.truncate.ensures.items)
    (MayBe-pushed old.undos.items undo old.bytes.items (take c.args.len old.bytes.items)
    (undone-cut undo old.bytes.items c.args.len c.requires touch (search rules) (search rules))
    (rw touch (MayBe-cut _ (touches_in old.undos.items) old.bytes.items c.args.len old.may_be)))

pub invariant_of-self-2-clause-undo_has_room : goal.invariant_of-self-2-clause-undo_has_room
invariant_of-self-2-clause-undo_has_room c =
    let old = c.args.self.now in
    let undo = c.in_ok-undo.undo in
    rw (c.in_ok-push.ensures.items)
    (fits-pushed old.undos.items undo old.room old.undo_has_room
    (fits-cut undo old.bytes.items old.room c.args.len c.requires old.has_room (search rules) (search rules)))

pub returns-clause-synced : goal.returns-clause-synced
returns-clause-synced c =
    let old = c.args.self.now in
    let undo = c.in_ok-undo.undo in
    rw (c.in_ok-push.ensures.items, c.truncate.ensures.items)
    (all_undone-pushed old.undos.items undo old.bytes.items (take c.args.len old.bytes.items)
    (undone-cut undo old.bytes.items c.args.len c.requires (search rules) (search rules) (search rules)))
