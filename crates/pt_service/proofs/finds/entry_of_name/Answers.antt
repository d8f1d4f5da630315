use Rattle.std.proofs.lemmas.Result.{err_from_is_err_and}
use Rattle.pt_service.proofs.Entries.{unfit_name}
use Rattle.pt_service.proofs.finds.entry_of_name.Goals as goal

pub returns-in_err-e-clause-fault : goal.returns-in_err-e-clause-fault
returns-in_err-e-clause-fault g c =
    let p = err_from_is_err_and c.from_residual-in_err-e.result c.from_residual-in_err-e.ensures.1 in
    rw (p.1, p.2) (unfit_name c.args.d.now.bytes c.in_ok-found.found c.args.name.now c.len.result c.in_err-e.field-0.0
    c.in_err-e.ensures.fault c.in_err-e.ensures.unfit
    c.in_ok-found.ensures.found)
