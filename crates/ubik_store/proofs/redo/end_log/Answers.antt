use Rattle.std.proofs.Common.{refl, arith}
use Rattle.std.proofs.lemmas.Bool.{false≢true}
use Rattle.disk_base.proofs.Runs.{widened, joined, changes_joined, changes_as}
use Rattle.ubik_store.proofs.Closing.{cut_off, LeavesLog}
use Rattle.ubik_store.proofs.Telling.{told, of_some}
use Rattle.ubik_store.proofs.redo.end_log.Goals as goal

pub returns-in_err-close_gate-clause-moments : goal.returns-in_err-close_gate-clause-moments
returns-in_err-close_gate-clause-moments g c = told _ _ (λ fs is. c.close_gate.ensures.either fs.log)

pub returns-in-Done-clause-moments : goal.returns-in-Done-clause-moments
returns-in-Done-clause-moments g c = told _ (LeavesLog g.D.Disk c.args.disk.now c.empty_log_file.new.disk) (λ fs is is_open only.
    joined g.D.Disk.steps g.D.Disk.left_since _ _ _ _ (c.close_gate.ensures.either fs.log is_open only)
    (widened g.D.Disk.steps g.D.Disk.left_since _ _ _ _
    (cut_off fs.log _ _ (of_some _ fs _ is c.in_ok-close_gate.ensures.set.left)) c.empty_log_file.ensures.moments))

pub returns-in-Failed-clause-moments : goal.returns-in-Failed-clause-moments
returns-in-Failed-clause-moments g c = told _ (LeavesLog g.D.Disk c.args.disk.now c.empty_log_file.new.disk) (λ fs is is_open only.
    joined g.D.Disk.steps g.D.Disk.left_since _ _ _ _ (c.close_gate.ensures.either fs.log is_open only)
    (widened g.D.Disk.steps g.D.Disk.left_since _ _ _ _
    (cut_off fs.log _ _ (of_some _ fs _ is c.in_ok-close_gate.ensures.set.left)) c.empty_log_file.ensures.moments))

pub returns-in-Done-clause-changes : goal.returns-in-Done-clause-changes
returns-in-Done-clause-changes g c =
    changes_as (omega arith) (λ failed. cc) (λ failed. absurd (false≢true failed))
    (changes_joined c.in_ok-close_gate.ensures.changes (λ failed. absurd cc) c.empty_log_file.ensures.changes)

pub returns-in-Failed-clause-changes : goal.returns-in-Failed-clause-changes
returns-in-Failed-clause-changes g c =
    changes_as (omega arith) (λ failed. refl) (λ failed. c.in-Failed.is)
    (changes_joined c.in_ok-close_gate.ensures.changes (λ failed. absurd cc) c.empty_log_file.ensures.changes)
