use Rattle.std.proofs.lemmas.Result.{err_from_is_err_and}
use Rattle.db_chains.proofs.Ended.{bad_cause, found_in}
use Rattle.db_chains.proofs.walks.find.Goals as goal

pub returns-in_err-walk-clause-fault : goal.returns-in_err-walk-clause-fault
returns-in_err-walk-clause-fault g c =
    let p = err_from_is_err_and c.from_residual.result c.from_residual.ensures.1 in
    rw (p.1, p.2) (bad_cause c.args.d.now.bytes c.args.links (g.S.StopAt.test c.args.sought.now) c.args.at c.in_err-walk.field-0.0
    c.requires.links.step c.in_err-walk.ensures.fault)

pub returns-clause-found : goal.returns-clause-found
returns-clause-found g c =
    found_in c.args.d.now.bytes c.args.links (g.S.StopAt.test c.args.sought.now) c.args.at c.in_ok-walk.field-0 c.requires.links.step
    c.in_ok-walk.ensures.stop
