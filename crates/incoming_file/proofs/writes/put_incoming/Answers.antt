use Rattle.std.proofs.Common.{◌≡◌, length, rules, arith}
use Rattle.disk_base.specs.declared.disks.FileNo.TheVariants.{Incoming}
use Rattle.disk_base.specs.declared.disks.DiskEnd.TheVariants.{Failed}
use Rattle.disk_base.specs.Crash.{Torn, InFile, After}
use Rattle.disk_base.specs.Runs.{Writes, Syncs}
use Rattle.disk_base.proofs.Runs.{untouched, called, joined, write_changes, sync_changes, changes_joined, changes_as}
use Rattle.incoming_file.proofs.writes.put_incoming.Goals as goal

pub returns-in-Done-clause-moments : goal.returns-in-Done-clause-moments
returns-in-Done-clause-moments g c =
    let disk = g.D.Disk in
    let old = c.args.disk.now in
    let mid = c.write_at.new.self in
    let new = c.sync.new.self in
    let torn = c.write_at.ensures.crash in
    let P = After (InFile Incoming (Torn c.args.at (length c.args.bytes.now))) (disk.may_leave old) in
    joined disk.steps disk.left_since old mid new P
    (called disk.steps disk.left_since old mid P (disk.may_leave old)
    (disk.may_leave mid) c.write_at.ensures.steps c.write_at.ensures.time (disk.only_now old)
    (untouched Incoming c.args.at (length c.args.bytes.now) (disk.may_leave old)) torn)
    (called disk.steps disk.left_since mid new P (disk.may_leave mid) (disk.may_leave new) c.sync.ensures.steps c.sync.ensures.time
    (disk.only_now mid)
    torn (λ files left. torn files (c.sync.ensures.crash files left)))

pub returns-in-Done-clause-changes : goal.returns-in-Done-clause-changes
returns-in-Done-clause-changes g c =
    let write : Writes g.D.Disk Incoming c.args.at c.args.bytes.now c.args.disk.now c.write_at.new.self
    (c.write_at.result ≡ Failed) = search rules in
    let sync : Syncs g.D.Disk Incoming c.write_at.new.self c.sync.new.self (c.sync.result ≡ Failed) = search rules in
    changes_joined (write_changes write) (λ failed. absurd cc) (sync_changes sync)

pub returns-in-Failed-clause-changes : goal.returns-in-Failed-clause-changes
returns-in-Failed-clause-changes g c =
    let write : Writes g.D.Disk Incoming c.args.at c.args.bytes.now c.args.disk.now c.write_at.new.self
    (c.write_at.result ≡ Failed) = search rules in
    changes_as (omega arith) (λ failed. cc) (λ failed. cc) (write_changes write)
