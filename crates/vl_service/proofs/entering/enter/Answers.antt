use Rattle.std.proofs.Common.{refl, arith}
use Rattle.std.proofs.lemmas.Result.{err_from_is_err_and}
use Rattle.vl_service.proofs.Entered.{cause_of_enter, enter_done, enter_refused}
use Rattle.vl_service.proofs.entering.enter.Goals as goal

pub returns-in-Refused-clause-meant : goal.returns-in-Refused-clause-meant
returns-in-Refused-clause-meant g c =
    let found = c.in_ok-fault.ensures.decided in
    enter_refused c.args.d.now.bytes c.decide.new.d.bytes c.args.own c.args.operation c.args.moment c.args.e c.in-Refused.fault _
    c.decide.ensures.frame.same.bytes (rw c.in-Refused.is at found) refl

pub put-requires-clause-entry : goal.put-requires-clause-entry
put-requires-clause-entry g c =
    let fit = c.in_ok-fault.ensures.fit in
    let good = rw c.in-Enters.is at fit in
    rw c.with_lock.ensures (good c.args.operation c.args.moment (omega arith) (omega arith))

pub returns-in_ok-end-in-Enters-clause-meant : goal.returns-in_ok-end-in-Enters-clause-meant
returns-in_ok-end-in-Enters-clause-meant g c =
    let found = c.in_ok-fault.ensures.decided in
    let bytes = c.in_ok-end-in-Enters.ensures.bytes in
    enter_done c.args.d.now.bytes c.decide.new.d.bytes c.put.new.d.bytes c.args.own c.args.operation c.args.moment c.args.e
    c.in-Enters.places c.in_ok-end-in-Enters.end
    c.decide.ensures.frame.same.bytes (rw c.in-Enters.is at found) c.in_ok-end-in-Enters.ensures.told (rw c.with_lock.ensures at bytes)

pub returns-in_err-end-in-Enters-clause-fault : goal.returns-in_err-end-in-Enters-clause-fault
returns-in_err-end-in-Enters-clause-fault g c =
    let found = c.in_ok-fault.ensures.decided in
    let fit = c.in_ok-fault.ensures.fit in
    let good = rw c.in-Enters.is at fit in
    let cause = c.in_err-end-in-Enters.ensures.fault in
    let p = err_from_is_err_and c.from_residual-in_err-end-in-Enters.result c.from_residual-in_err-end-in-Enters.ensures.1 in
    rw (p.1, p.2) (cause_of_enter c.args.d.now.bytes c.decide.new.d.bytes c.args.own c.args.operation c.args.moment c.args.e
    c.in-Enters.places c.in_err-end-in-Enters.field-0.0
    c.decide.ensures.frame.same.bytes (rw c.in-Enters.is at found) (good c.args.operation c.args.moment (omega arith) (omega arith))
    (rw c.with_lock.ensures at cause))
