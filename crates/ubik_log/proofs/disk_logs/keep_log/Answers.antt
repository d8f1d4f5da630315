use Rattle.std.proofs.Common.{arith, rules, refl}
use Rattle.disk_base.specs.Runs.{OnlyReserves}
use Rattle.disk_base.proofs.Runs.{rested, reserve_reads, reads_change_none, changes_joined, changes_as}
use Rattle.ubik_log.proofs.KeptLogs.{told_or_not, empty_left, moments_after, since_same}
use Rattle.ubik_log.proofs.disk_logs.keep_log.Goals as goal

pub returns-in-NoMemory-clause-moments : goal.returns-in-NoMemory-clause-moments
returns-in-NoMemory-clause-moments g c =
    let before = g.D.Disk.may_leave c.args.disk.now in
    told_or_not (g.D.Disk.files c.args.disk.now) _
    (λ only. rested g.D.Disk.steps g.D.Disk.left_since _ _ _ before (g.D.Disk.may_leave c.reserve.new.self) c.reserve.ensures.steps c.reserve.ensures.crash (g.D.Disk.only_now c.args.disk.now) (empty_left before only))

pub returns-in-Failed-clause-since_sync : goal.returns-in-Failed-clause-since_sync
returns-in-Failed-clause-since_sync g c =
    since_same _ _ _ _ _ (g.D.Disk.left_since c.put_closed.new.disk) c.reserve.ensures.files c.reserve.ensures.steps c.put_closed.ensures.since_sync

pub returns-in-Done-clause-moments : goal.returns-in-Done-clause-moments
returns-in-Done-clause-moments g c =
    let made : OnlyReserves g.D.Disk c.args.disk.now c.reserve.new.self = search rules in
    moments_after _ made c.put_closed.ensures.moments

pub returns-in-Failed-clause-moments : goal.returns-in-Failed-clause-moments
returns-in-Failed-clause-moments g c =
    let made : OnlyReserves g.D.Disk c.args.disk.now c.reserve.new.self = search rules in
    moments_after _ made c.put_closed.ensures.moments

pub returns-in-NoMemory-clause-changes : goal.returns-in-NoMemory-clause-changes
returns-in-NoMemory-clause-changes g c =
    let made : OnlyReserves g.D.Disk c.args.disk.now c.reserve.new.self = search rules in
    changes_as (omega arith) (λ none. absurd none) (λ failed. absurd cc) (reads_change_none (reserve_reads made))

pub returns-in-Done-clause-changes : goal.returns-in-Done-clause-changes
returns-in-Done-clause-changes g c =
    let made : OnlyReserves g.D.Disk c.args.disk.now c.reserve.new.self = search rules in
    changes_as (omega arith) (λ failed. absurd cc) (λ failed. absurd cc) (changes_joined (reads_change_none (reserve_reads made)) (λ none. none) c.put_closed.ensures.changes)

pub returns-in-Failed-clause-changes : goal.returns-in-Failed-clause-changes
returns-in-Failed-clause-changes g c =
    let made : OnlyReserves g.D.Disk c.args.disk.now c.reserve.new.self = search rules in
    changes_as (omega arith) (λ failed. refl) (λ failed. cc) (changes_joined (reads_change_none (reserve_reads made)) (λ none. none) c.put_closed.ensures.changes)
