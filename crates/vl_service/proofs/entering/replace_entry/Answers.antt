use Rattle.std.proofs.Common.{sym, ◌∙◌, refl}
use Rattle.std.proofs.lemmas.Int.{to_z-of_z}
use Rattle.std.proofs.lemmas.Result.{err_from_is_err_and}
use Rattle.vldb_entries.specs.Location.{Location}
use Rattle.vl_service.specs.Meaning.{replaced}
use Rattle.vl_service.proofs.Entered.{cause_of_replace, replace_done}
use Rattle.vl_service.proofs.LockDone.{masked_bad_mask, masked_bad_type, masked_no_entry}
use Rattle.vl_service.proofs.entering.replace_entry.Goals as goal

pub returns-then-not-is_volume_type-clause-meant : goal.returns-then-not-is_volume_type-clause-meant
returns-then-not-is_volume_type-clause-meant g c =
    let fits = c.ranges.volume_type in
    let test = sym c.is_volume_type.ensures ∙ c.if-not-is_volume_type.true in
    masked_bad_type c.args.d.now.bytes c.args.volume_type c.args.id c.args.mask (λ (s : Location). replaced s c.args.e c.args.mask) _
    (simp to_z-of_z at test) refl

pub returns-then-has_other_bits-clause-meant : goal.returns-then-has_other_bits-clause-meant
returns-then-has_other_bits-clause-meant g c =
    let fits = c.ranges.volume_type in
    let test = sym c.is_volume_type.ensures ∙ c.if-not-is_volume_type.false in
    masked_bad_mask c.args.d.now.bytes c.args.volume_type c.args.id c.args.mask (λ (s : Location). replaced s c.args.e c.args.mask) _
    (simp to_z-of_z at test)
    (sym c.has_other_bits.ensures ∙ c.if-has_other_bits.true) refl

pub returns-in_default-clause-meant : goal.returns-in_default-clause-meant
returns-in_default-clause-meant g c =
    let fits = c.ranges.volume_type in
    let test = sym c.is_volume_type.ensures ∙ c.if-not-is_volume_type.false in
    let first = c.in_ok-old.ensures.found in
    let found = rw c.in_default.is at first in
    masked_no_entry c.args.d.now.bytes c.find_typed.new.d.bytes c.args.volume_type c.args.id c.args.mask
    (λ (s : Location). replaced s c.args.e c.args.mask) _
    (simp to_z-of_z at test) (sym c.has_other_bits.ensures ∙ c.if-has_other_bits.false)
    (simp to_z-of_z at found) refl c.find_typed.ensures.frame.same.bytes

pub returns-clause-meant : goal.returns-clause-meant
returns-clause-meant g c =
    let fits = c.ranges.volume_type in
    let test = sym c.is_volume_type.ensures ∙ c.if-not-is_volume_type.false in
    let first = c.in_ok-old.ensures.found in
    let found = rw c.in-Some.is at first in
    replace_done c.args.d.now.bytes c.find_typed.new.d.bytes c.enter.new.d.bytes c.args.volume_type c.args.id c.args.mask
    c.operation_left-operation.result
    c.moment_left-moment.result c.args.e c.in-Some.old c.in_ok-end.end (simp to_z-of_z at test)
    (sym c.has_other_bits.ensures ∙ c.if-has_other_bits.false)
    c.operation_left-operation.ensures c.moment_left-moment.ensures
    (simp to_z-of_z at found) c.find_typed.ensures.frame.same.bytes c.in_ok-end.ensures.meant

pub returns-in_err-end-clause-fault : goal.returns-in_err-end-clause-fault
returns-in_err-end-clause-fault g c =
    let fits = c.ranges.volume_type in
    let first = c.in_ok-old.ensures.found in
    let found = rw c.in-Some.is at first in
    let p = err_from_is_err_and c.from_residual-in_err-end.result c.from_residual-in_err-end.ensures.1 in
    rw (p.1, p.2) (cause_of_replace c.args.d.now.bytes c.find_typed.new.d.bytes c.args.volume_type c.args.id c.in-Some.old
    c.in_err-end.field-0.0
    c.find_typed.ensures.frame.same.bytes (simp to_z-of_z at found) c.in_err-end.ensures.fault)
