use Rattle.std.proofs.Common.{sym, ◌∙◌, arith}
use Rattle.std.proofs.lemmas.Result.{err_from_is_err_and}
use Rattle.vl_service.proofs.FittingEntries.{record_is}
use Rattle.vl_service.proofs.LockDone.{cause_of_lock, cause_of_unfit}
use Rattle.vl_service.proofs.locking.put_lock.Goals as goal

pub returns-then-not-entry_fits-clause-fault : goal.returns-then-not-entry_fits-clause-fault
returns-then-not-entry_fits-clause-fault g c =
    cause_of_unfit c.args.d.now.bytes c.args.e c.len.result (sym c.entry_fits.ensures ∙ c.if-not-entry_fits.true)

pub replace-requires-clause-entry : goal.replace-requires-clause-entry
replace-requires-clause-entry g c =
    record_is (record c.args.e { lock_op = c.args.operation; lock_moment = c.args.moment }) (omega arith) (omega arith) (omega arith)
    (sym c.entry_fits.ensures ∙ c.if-not-entry_fits.false)

pub returns-in_err-replace-clause-fault : goal.returns-in_err-replace-clause-fault
returns-in_err-replace-clause-fault g c =
    let p = err_from_is_err_and c.from_residual-in_err-replace.result c.from_residual-in_err-replace.ensures.1 in
    rw (p.1, p.2) (cause_of_lock c.args.d.now.bytes c.args.e c.args.operation c.args.moment c.in_err-replace.field-0.0
    c.in_err-replace.ensures.fault)
