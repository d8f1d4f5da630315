use Rattle.std.proofs.Common.{◌≡◌, ◌<◌, [], Some, IfSome}
use Rattle.disk_base.specs.Crash.{IsSettled}
use Rattle.disk_base.specs.Files.{Files}
use Rattle.ubik_store.specs.Rest.{AreEmpty}
use Rattle.base_bench.specs.Blocks.{IsLabelled}
use Rattle.base_bench.specs.declared.store_commits.TheConstants.{VERSION}
use Rattle.base_bench.proofs.store_commits.opened_often.Given as goal

-- the files are at rest, and those of a disk that tells them are told still
abbrev pub invariant-loop-turn : goal.invariant-loop-turn
invariant-loop-turn g l = record {
  empty : IfSome (g.D.Disk.files l.opened) AreEmpty;
  settled : IsSettled (g.D.Disk.files l.opened) (g.D.Disk.may_leave l.opened);
  there : IfSome (g.D.Disk.files l.initial.opened) (λ _. (fs : Files) × (g.D.Disk.files l.opened ≡ Some fs));
  label : 0 < l._turn → IfSome (g.D.Disk.files l.initial.opened) (λ _. IsLabelled VERSION (g.D.Disk.files l.opened));
}
