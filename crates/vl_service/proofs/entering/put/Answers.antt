use Rattle.std.proofs.lemmas.Result.{err_from_is_err_and}
use Rattle.vldb_records.proofs.Becoming.{becomes_then}
use Rattle.vl_service.specs.Entering.{moved, stored}
use Rattle.vl_service.proofs.Entered.{cause_of_moved}
use Rattle.vl_service.proofs.entering.put.Goals as goal

pub returns-in_err-store-clause-fault : goal.returns-in_err-store-clause-fault
returns-in_err-store-clause-fault g c =
    let p = err_from_is_err_and c.from_residual-in_err-store.result c.from_residual-in_err-store.ensures.1 in
    rw (p.1, p.2) (cause_of_moved c.args.d.now.bytes c.set_places.new.d.bytes c.args.own c.args.e.now c.args.places.now
    c.in_err-store.field-0.0
    c.in_ok-set_places.ensures.bytes c.in_err-store.ensures.fault)

pub returns-clause-bytes : goal.returns-clause-bytes
returns-clause-bytes g c =
    becomes_then (moved c.args.places.now) (stored c.args.own c.args.e.now) c.args.d.now.bytes c.set_places.new.d.bytes c.store.new.d.bytes
    c.in_ok-set_places.ensures.bytes c.in_ok-store.ensures.bytes
