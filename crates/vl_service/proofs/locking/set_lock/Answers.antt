use Rattle.std.proofs.Common.{sym, ◌∙◌, refl}
use Rattle.std.proofs.lemmas.Int.{to_z-of_z}
use Rattle.std.proofs.lemmas.Result.{err_from_is_err_and}
use Rattle.vl_service.proofs.LockDone.{cause_of_there, set_bad_operation, set_bad_type, set_done, set_locked, set_no_entry}
use Rattle.vl_service.proofs.locking.set_lock.Goals as goal

pub returns-then-not-is_volume_type-clause-meant : goal.returns-then-not-is_volume_type-clause-meant
returns-then-not-is_volume_type-clause-meant g c =
    let fits = c.ranges.volume_type in
    let test = sym c.is_volume_type.ensures ∙ c.if-not-is_volume_type.true in
    set_bad_type c.args.d.now.bytes c.args.volume_type c.args.id c.args.operation c.args.now _ (simp to_z-of_z at test) refl

pub returns-then-not-is_operation-clause-meant : goal.returns-then-not-is_operation-clause-meant
returns-then-not-is_operation-clause-meant g c =
    let fits = c.ranges.volume_type in
    let test = sym c.is_volume_type.ensures ∙ c.if-not-is_volume_type.false in
    set_bad_operation c.args.d.now.bytes c.args.volume_type c.args.id c.args.operation c.args.now _ (simp to_z-of_z at test)
    (sym c.is_operation.ensures ∙ c.if-not-is_operation.true) refl

pub returns-in_default-clause-meant : goal.returns-in_default-clause-meant
returns-in_default-clause-meant g c =
    let fits = c.ranges.volume_type in
    let test = sym c.is_volume_type.ensures ∙ c.if-not-is_volume_type.false in
    let first = c.in_ok-entry.ensures.found in
    let found = rw c.in_default.is at first in
    set_no_entry c.args.d.now.bytes c.find_typed.new.d.bytes c.args.volume_type c.args.id c.args.operation c.args.now _
    (simp to_z-of_z at test)
    (sym c.is_operation.ensures ∙ c.if-not-is_operation.false) (simp to_z-of_z at found) refl c.find_typed.ensures.frame.same.bytes

pub returns-then-is_locked-clause-meant : goal.returns-then-is_locked-clause-meant
returns-then-is_locked-clause-meant g c =
    let fits = c.ranges.volume_type in
    let test = sym c.is_volume_type.ensures ∙ c.if-not-is_volume_type.false in
    let first = c.in_ok-entry.ensures.found in
    let found = rw c.in-Some.is at first in
    set_locked c.args.d.now.bytes c.find_typed.new.d.bytes c.args.volume_type c.args.id c.args.operation c.args.now c.in-Some.entry _
    (simp to_z-of_z at test)
    (sym c.is_operation.ensures ∙ c.if-not-is_operation.false) (simp to_z-of_z at found)
    (sym c.is_locked.ensures ∙ c.if-is_locked.true) refl
    c.find_typed.ensures.frame.same.bytes

pub returns-clause-meant : goal.returns-clause-meant
returns-clause-meant g c =
    let fits = c.ranges.volume_type in
    let test = sym c.is_volume_type.ensures ∙ c.if-not-is_volume_type.false in
    let first = c.in_ok-entry.ensures.found in
    let found = rw c.in-Some.is at first in
    set_done c.args.d.now.bytes c.find_typed.new.d.bytes c.put_lock.new.d.bytes c.args.volume_type c.args.id c.args.operation c.args.now
    c.in-Some.entry c.in_ok-end.end
    (simp to_z-of_z at test) (sym c.is_operation.ensures ∙ c.if-not-is_operation.false) (simp to_z-of_z at found)
    (sym c.is_locked.ensures ∙ c.if-is_locked.false)
    c.in_ok-end.ensures.told c.find_typed.ensures.frame.same.bytes c.in_ok-end.ensures.bytes

pub returns-in_err-end-clause-fault : goal.returns-in_err-end-clause-fault
returns-in_err-end-clause-fault g c =
    let fits = c.ranges.volume_type in
    let first = c.in_ok-entry.ensures.found in
    let found = rw c.in-Some.is at first in
    let p = err_from_is_err_and c.from_residual-in_err-end.result c.from_residual-in_err-end.ensures.1 in
    rw (p.1, p.2) (cause_of_there c.args.d.now.bytes c.find_typed.new.d.bytes c.args.volume_type c.args.id c.in-Some.entry
    c.in_err-end.field-0.0
    c.find_typed.ensures.frame.same.bytes (simp to_z-of_z at found) c.in_err-end.ensures.fault)
