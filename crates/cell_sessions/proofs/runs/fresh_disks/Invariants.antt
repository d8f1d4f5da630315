use Rattle.std.proofs.Common.{◌≡◌, Some, vec_len}
use Rattle.disk_base.specs.MemDisk.{now_of, disk_may_leave, disk_stop, disk_faults}
use Rattle.ubik_cell.specs.Disks.{AllFresh}
use Rattle.cell_sessions.proofs.runs.fresh_disks.Given as goal

abbrev pub invariant-loop : goal.invariant-loop
invariant-loop l = record {
  count : vec_len l.disks ≡ l.counter;
  fresh : AllFresh (λ disk. Some (now_of disk)) disk_may_leave disk_stop disk_faults l.disks.items;
}
