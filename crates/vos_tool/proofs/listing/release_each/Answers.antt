use Rattle.std.proofs.Common.{arith}
use Rattle.vldb_entries.specs.declared.entries.VlEntry.{VlEntry}
use Rattle.vos_tool.specs.Locking.{releases_lock}
use Rattle.vos_tool.proofs.Items.{each_next, each_stops}
use Rattle.vos_tool.proofs.listing.release_each.Goals as goal

pub returns-in_err-release_lock : goal.returns-in_err-release_lock
returns-in_err-release_lock g c =
    each_stops (λ (e : VlEntry). releases_lock e.rw) c.args.entries.now c.loop-entry.entry-index c.entry-item.result _ _ _ _ _ _ _
    c.in_err-release_lock.field-0.0 c.from_residual.result
    (omega arith) c.entry-item.is c.loop-entry.invariant c.in_err-release_lock.ensures c.from_residual.ensures.1

pub loop-entry-preserved : goal.loop-entry-preserved
loop-entry-preserved g c =
    each_next (λ (e : VlEntry). releases_lock e.rw) c.args.entries.now c.loop-entry.entry-index c.entry-item.result _ _ _ _ _ _ _
    (omega arith) c.entry-item.is c.loop-entry.invariant c.in_ok-release_lock.ensures
