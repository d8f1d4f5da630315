use Rattle.std.proofs.Common.{true, false}
use Rattle.vl_service.proofs.Decided.{id_shared, name_shared}
use Rattle.vl_service.proofs.deciding.shared_fault.Goals as goal

pub returns-then-branch-clause-found : goal.returns-then-branch-clause-found
returns-then-branch-clause-found g c =
    let name = c.in_ok-other_has_name.ensures.found in
    name_shared c.args.d.now.bytes c.args.own c.args.e.now (rw (c.if-branch.true, c.as_slice.ensures) at name)

pub returns-then-branch-2-clause-found : goal.returns-then-branch-2-clause-found
returns-then-branch-2-clause-found g c =
    let name = c.in_ok-other_has_name.ensures.found in
    let id = c.in_ok-other_shares_id.ensures.found in
    id_shared c.args.d.now.bytes c.other_has_name.new.d.bytes c.args.own c.args.e.now true c.other_has_name.ensures.frame.same.bytes
    (rw (c.if-branch.false, c.as_slice.ensures) at name) (rw c.if-branch-2.true at id)

pub returns-clause-found : goal.returns-clause-found
returns-clause-found g c =
    let name = c.in_ok-other_has_name.ensures.found in
    let id = c.in_ok-other_shares_id.ensures.found in
    id_shared c.args.d.now.bytes c.other_has_name.new.d.bytes c.args.own c.args.e.now false c.other_has_name.ensures.frame.same.bytes
    (rw (c.if-branch.false, c.as_slice.ensures) at name) (rw c.if-branch-2.false at id)
