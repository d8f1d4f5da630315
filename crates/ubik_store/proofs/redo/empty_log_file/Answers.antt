use Rattle.std.proofs.Common.{◌≡◌, inl, refl, rules, arith}
use Rattle.disk_base.specs.declared.disks.FileNo.TheVariants.{Log}
use Rattle.disk_base.specs.declared.disks.DiskEnd.TheVariants.{Failed}
use Rattle.disk_base.specs.Crash.{CutShort, InFile, After}
use Rattle.disk_base.specs.Runs.{Cuts, Syncs}
use Rattle.disk_base.proofs.Runs.{called, joined, cut_changes, sync_changes, changes_joined, changes_as}
use Rattle.ubik_store.proofs.redo.empty_log_file.Goals as goal

pub returns-in-Done-clause-moments : goal.returns-in-Done-clause-moments
returns-in-Done-clause-moments g c =
    let disk = g.D.Disk in
    let old = c.args.disk.now in
    let mid = c.cut.new.self in
    let new = c.sync.new.self in
    let short = c.cut.ensures.crash in
    let P = After (InFile Log (CutShort 0)) (disk.may_leave old) in
    joined disk.steps disk.left_since old mid new P
    (called disk.steps disk.left_since old mid P (disk.may_leave old) (disk.may_leave mid) c.cut.ensures.steps c.cut.ensures.time
    (disk.only_now old)
    (λ fs left. (fs, left, (refl, inl refl))) short)
    (called disk.steps disk.left_since mid new P (disk.may_leave mid) (disk.may_leave new) c.sync.ensures.steps c.sync.ensures.time
    (disk.only_now mid)
    short (λ files left. short files (c.sync.ensures.crash files left)))

pub returns-in-Failed-clause-moments : goal.returns-in-Failed-clause-moments
returns-in-Failed-clause-moments g c =
    let disk = g.D.Disk in
    let old = c.args.disk.now in
    let new = c.cut.new.self in
    called disk.steps disk.left_since old new (After (InFile Log (CutShort 0)) (disk.may_leave old)) (disk.may_leave old)
    (disk.may_leave new) c.cut.ensures.steps c.cut.ensures.time (disk.only_now old)
    (λ fs left. (fs, left, (refl, inl refl))) c.cut.ensures.crash

pub returns-in-Done-clause-changes : goal.returns-in-Done-clause-changes
returns-in-Done-clause-changes g c =
    let cut : Cuts g.D.Disk Log 0 c.args.disk.now c.cut.new.self (c.cut.result ≡ Failed) = search rules in
    let sync : Syncs g.D.Disk Log c.cut.new.self c.sync.new.self (c.sync.result ≡ Failed) = search rules in
    changes_joined (cut_changes cut) (λ failed. absurd cc) (sync_changes sync)

pub returns-in-Failed-clause-changes : goal.returns-in-Failed-clause-changes
returns-in-Failed-clause-changes g c =
    let cut : Cuts g.D.Disk Log 0 c.args.disk.now c.cut.new.self (c.cut.result ≡ Failed) = search rules in
    changes_as (omega arith) (λ failed. cc) (λ failed. cc) (cut_changes cut)
