use Rattle.std.proofs.Common.{◌≡◌, ◌+◌, ◌*◌, ◌≤◌, IfSome, length}
use Rattle.disk_base.specs.declared.disks.FileNo.TheVariants.{Database}
use Rattle.base_bench.proofs.disk_writes.commit_often.Given as goal

-- so many writes and syncs were made, and the file is no shorter
abbrev pub invariant-loop-turn : goal.invariant-loop-turn
invariant-loop-turn g l = record {
  steps : g.D.Disk.steps l.disk ≡ g.D.Disk.steps l.initial.disk + 2 * l.turn;
  there : IfSome (g.D.Disk.files l.disk) (λ fs. 65536 ≤ length fs.database);
  room : 65536 ≤ g.D.Disk.room l.disk Database;
}
