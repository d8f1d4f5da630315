use Rattle.std.proofs.lemmas.Result.{err_from_is_err_and}
use Rattle.vl_service.proofs.Entered.{cause_of_made}
use Rattle.vl_service.proofs.entering.create_entry.Goals as goal

pub returns-in_err-end-clause-fault : goal.returns-in_err-end-clause-fault
returns-in_err-end-clause-fault g c =
    let p = err_from_is_err_and c.from_residual.result c.from_residual.ensures.1 in
    rw (p.1, p.2) (cause_of_made c.args.d.now.bytes c.in_err-end.field-0.0 c.in_err-end.ensures.fault)
