use Rattle.std.proofs.Common.{sym, ap, ◌∙◌, refl}
use Rattle.std.specs.Option.{option_map}
use Rattle.std.proofs.lemmas.Int.{to_z-of_z}
use Rattle.std.proofs.lemmas.Result.{err_from_is_err_and}
use Rattle.vldb_records.specs.Changes.{after_remove}
use Rattle.vl_service.specs.Meaning.{leaves}
use Rattle.vl_service.proofs.Done.{bad_type_done, cause_of_found, leave_done, no_entry_done}
use Rattle.vl_service.proofs.changing.delete_entry.Goals as goal

pub returns-then-not-is_volume_type-clause-meant : goal.returns-then-not-is_volume_type-clause-meant
returns-then-not-is_volume_type-clause-meant g c =
    let fits = c.ranges.volume_type in
    let test = sym c.is_volume_type.ensures ∙ c.if-not-is_volume_type.true in
    bad_type_done c.args.d.now.bytes c.args.volume_type c.args.id leaves _ (simp to_z-of_z at test) refl

pub returns-in_default-clause-meant : goal.returns-in_default-clause-meant
returns-in_default-clause-meant g c =
    let fits = c.ranges.volume_type in
    let test = sym c.is_volume_type.ensures ∙ c.if-not-is_volume_type.false in
    let first = c.in_ok-entry.ensures.found in
    let found = rw c.in_default.is at first in
    no_entry_done c.args.d.now.bytes c.find_typed.new.d.bytes c.args.volume_type c.args.id leaves _ (simp to_z-of_z at test)
    (simp to_z-of_z at found) refl
    c.find_typed.ensures.frame.same.bytes

pub returns-clause-meant : goal.returns-clause-meant
returns-clause-meant g c =
    let fits = c.ranges.volume_type in
    let test = sym c.is_volume_type.ensures ∙ c.if-not-is_volume_type.false in
    let first = c.in_ok-entry.ensures.found in
    let found = rw c.in-Some.is at first in
    leave_done c.args.d.now.bytes c.remove.new.d.bytes c.args.volume_type c.args.id c.in-Some.entry c.in_ok-end.end
    (simp to_z-of_z at test) (simp to_z-of_z at found) c.in_ok-end.ensures.told
    (c.in_ok-remove.ensures.bytes ∙ ap (option_map (after_remove c.in-Some.entry.rw)) c.find_typed.ensures.frame.same.bytes)

pub returns-in_err-remove-clause-fault : goal.returns-in_err-remove-clause-fault
returns-in_err-remove-clause-fault g c =
    let fits = c.ranges.volume_type in
    let first = c.in_ok-entry.ensures.found in
    let found = rw c.in-Some.is at first in
    let p = err_from_is_err_and c.from_residual-in_err-remove.result c.from_residual-in_err-remove.ensures.1 in
    rw (p.1, p.2) (cause_of_found c.args.d.now.bytes c.find_typed.new.d.bytes c.args.volume_type c.args.id c.in-Some.entry
    c.in_err-remove.field-0.0 c.find_typed.ensures.frame.same.bytes
    (simp to_z-of_z at found) c.in_err-remove.ensures.fault)
