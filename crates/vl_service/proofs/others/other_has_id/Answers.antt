use Rattle.std.proofs.Common.{Some, None}
use Rattle.vl_service.proofs.Decided.{id_found}
use Rattle.vl_service.proofs.others.other_has_id.Goals as goal

pub returns-in-Some-clause-found : goal.returns-in-Some-clause-found
returns-in-Some-clause-found g c =
    let found = c.in_ok-e.ensures.found in
    id_found c.args.d.now.bytes c.args.own c.args.id (Some c.in-Some.e) (rw c.in-Some.is at found)

pub returns-in-None-clause-found : goal.returns-in-None-clause-found
returns-in-None-clause-found g c =
    let found = c.in_ok-e.ensures.found in
    id_found c.args.d.now.bytes c.args.own c.args.id None (rw c.in-None.is at found)
