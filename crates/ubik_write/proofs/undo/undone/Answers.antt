use Rattle.std.proofs.Common.{◌+◌, get_or, arith}
use Rattle.ubik_write.proofs.Patches.{undone-more}
use Rattle.ubik_write.proofs.undo.undone.Goals as goal

pub loop-patch-preserved : goal.loop-patch-preserved
loop-patch-preserved c = λ i inside.
    (undone-more c.args.undo.now c.patch-item.result c.loop-patch.patch-index (c.args.at + i) (get_or c.args.buf.now i 0) (get_or c.loop-patch.buf i 0) (get_or c.lay.new.buf i 0) (omega arith) c.patch-item.is (c.loop-patch.invariant i inside) (c.lay.ensures i (omega arith)))
