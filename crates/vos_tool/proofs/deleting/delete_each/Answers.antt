use Rattle.std.proofs.Common.{arith}
use Rattle.vos_tool.specs.Deleting.{deletes}
use Rattle.vos_tool.proofs.Items.{each_next, each_stops}
use Rattle.vos_tool.proofs.deleting.delete_each.Goals as goal

pub returns-in_err-delete : goal.returns-in_err-delete
returns-in_err-delete g c =
    each_stops deletes c.args.volumes.now c.loop-volume.volume-index c.volume-item.result _ _ _ _ _ _ _ c.in_err-delete.field-0.0
    c.from_residual.result (omega arith) c.volume-item.is c.loop-volume.invariant c.in_err-delete.ensures c.from_residual.ensures.1

pub loop-volume-preserved : goal.loop-volume-preserved
loop-volume-preserved g c =
    each_next deletes c.args.volumes.now c.loop-volume.volume-index c.volume-item.result _ _ _ _ _ _ _
    (omega arith) c.volume-item.is c.loop-volume.invariant c.in_ok-delete.ensures
