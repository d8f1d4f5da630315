use Rattle.std.proofs.Common.{◌∙◌, length, arith}
use Rattle.disk_base.proofs.Runs.{widened, joined, changes_joined, changes_as}
use Rattle.ubik_log.proofs.KeptLogs.{on_done, told_or_not, under, kept, durable, first_run, zero_only, second_run}
use Rattle.ubik_log.proofs.disk_logs.put_closed.Goals as goal

pub returns-in-Done-clause-stands : goal.returns-in-Done-clause-stands
returns-in-Done-clause-stands g c =
    on_done c.put_synced-in-Done.result _ _ (λ second. second ∙ kept c.args.log.now c.split_at.result.1.now c.split_at.ensures.back _ _ c.requires.empty c.in-Done.ensures.written)
    c.put_synced-in-Done.ensures.written

pub returns-in-Done-clause-durable : goal.returns-in-Done-clause-durable
returns-in-Done-clause-durable g c =
    on_done c.put_synced-in-Done.result _ _
    (durable c.args.log.now c.split_at.result.1.now c.split_at.ensures.back _ _ _ _ _ (length c.split_at.result.1.now) c.requires.empty c.in-Done.ensures.written c.put_synced.ensures.crash c.put_synced-in-Done.ensures.crash)
    c.put_synced-in-Done.ensures.durable

pub returns-in-Done-clause-moments : goal.returns-in-Done-clause-moments
returns-in-Done-clause-moments g c =
    let before = g.D.Disk.may_leave c.args.disk.now in
    under (g.D.Disk.files c.args.disk.now) _ _
    (λ zero only. joined g.D.Disk.steps g.D.Disk.left_since _ _ _ _
    (widened g.D.Disk.steps g.D.Disk.left_since _ _ _ _ (first_run before only) c.put_synced.ensures.moments)
    (widened g.D.Disk.steps g.D.Disk.left_since _ _ _ _ (second_run before (g.D.Disk.may_leave c.put_synced.new.disk) (length c.split_at.result.1.now) c.put_synced.ensures.crash zero) c.put_synced-in-Done.ensures.moments))
    (zero_only _ (g.D.Disk.may_leave c.put_synced.new.disk) c.requires.empty c.in-Done.ensures.durable)

pub returns-in-Failed-clause-moments : goal.returns-in-Failed-clause-moments
returns-in-Failed-clause-moments g c =
    let before = g.D.Disk.may_leave c.args.disk.now in
    told_or_not (g.D.Disk.files c.args.disk.now) _ (λ only. widened g.D.Disk.steps g.D.Disk.left_since _ _ _ _ (first_run before only) c.put_synced.ensures.moments)

pub returns-in-Done-clause-changes : goal.returns-in-Done-clause-changes
returns-in-Done-clause-changes g c = changes_joined c.in-Done.ensures.changes (λ failed. absurd cc) c.put_synced-in-Done.ensures.changes

pub returns-in-Failed-clause-changes : goal.returns-in-Failed-clause-changes
returns-in-Failed-clause-changes g c = changes_as (omega arith) (λ failed. failed) (λ failed. failed) c.in-Failed.ensures.changes
