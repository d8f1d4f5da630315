use Rattle.std.proofs.Common.{arith}
use Rattle.disk_base.proofs.Runs.{write_changes, sync_changes, changes_joined, changes_as}
use Rattle.store_tests.proofs.disks.write_synced.Goals as goal

pub returns-in-Done : goal.returns-in-Done
returns-in-Done g c = record {
  changes = changes_joined (write_changes c.in-Done.ensures.writes) (λ failed. absurd (cc)) (sync_changes c.sync.ensures.syncs);
}

pub returns-in-Failed : goal.returns-in-Failed
returns-in-Failed g c = record { changes = changes_as (omega arith) (λ failed. failed) (λ failed. failed) (write_changes c.in-Failed.ensures.writes) }
