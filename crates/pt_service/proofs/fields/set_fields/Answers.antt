use Rattle.std.proofs.Common.{◌≡◌, true, sym, subst, ◌∙◌, refl}
use Rattle.std.proofs.lemmas.Int.{to_z-of_z}
use Rattle.std.proofs.lemmas.Result.{err_from_is_err_and}
use Rattle.prdb_layout.specs.RecordEnds.{seen}
use Rattle.prdb_layout.specs.Registry.{Registry}
use Rattle.prdb_layout.specs.State.{PrEntry}
use Rattle.pt_calls.specs.declared.answers.PtAnswer.TheVariants as answer
use Rattle.pt_service.specs.Fitting.{entry_fits}
use Rattle.pt_service.specs.Meaning.{Refit, fields_set, of_entry}
use Rattle.pt_service.proofs.Done.{changed, refused}
use Rattle.pt_service.proofs.Refitted.{cause_of_fields, fields_left, fields_made, fields_refused, no_fields}
use Rattle.pt_service.proofs.Frames.{drafted, looked}
use Rattle.pt_service.proofs.fields.set_fields.Goals as goal

pub returns-then-are_bad_fields-clause-meant : goal.returns-then-are_bad_fields-clause-meant
returns-then-are_bad_fields-clause-meant g c =
    let fits = c.ranges.id in
    let quota = c.ranges.quota in
    let first = c.in_ok-e.ensures.found in
    let found = rw c.in-Some.is at first in
    let test = sym c.are_bad_fields.ensures ∙ c.if-are_bad_fields.true in
    refused c.args.d.now.bytes c.entry_of_id.new.d.bytes
    (λ (r : Registry). of_entry (r.entry c.args.id) (fields_set c.args.mask c.args.flags c.args.quota)) 267273 _
    (fields_refused c.args.d.now.bytes c.args.id c.args.mask c.args.flags c.args.quota (seen c.in-Some.e) (simp to_z-of_z at test)
    (simp to_z-of_z at found)) refl
    c.entry_of_id.ensures.frame.same.bytes

pub put-requires-clause-fits : goal.put-requires-clause-fits
put-requires-clause-fits g c =
    let good = c.in_ok-e.ensures.good in
    subst (λ (e : PrEntry). entry_fits e ≡ true) (sym c.with_fields-e.ensures) (rw c.in-Some.is at good)

pub returns-clause-meant : goal.returns-clause-meant
returns-clause-meant g c =
    let fits = c.ranges.id in
    let quota = c.ranges.quota in
    let first = c.in_ok-e.ensures.found in
    let found = rw c.in-Some.is at first in
    let test = sym c.are_bad_fields.ensures ∙ c.if-are_bad_fields.false in
    let so = c.with_fields-e.ensures in
    changed c.args.d.now.bytes c.put.new.d.bytes
    (λ (r : Registry). of_entry (r.entry c.args.id) (fields_set c.args.mask c.args.flags c.args.quota)) answer.Done
    (Refit (seen c.with_fields-e.result)) c.in_ok-end.end
    (fields_made c.args.d.now.bytes c.args.id c.args.mask c.args.flags c.args.quota (seen c.in-Some.e) (seen c.with_fields-e.result)
    (simp to_z-of_z at test)
    (simp to_z-of_z at found) (simp to_z-of_z at so)) c.in_ok-end.ensures.told
    (fields_left c.args.d.now.bytes c.entry_of_id.new.d.bytes c.put.new.d.bytes
    (seen c.with_fields-e.result) c.entry_of_id.ensures.frame.same.bytes
    c.in_ok-put.ensures.bytes)

pub returns-in_err-put-clause-fault : goal.returns-in_err-put-clause-fault
returns-in_err-put-clause-fault g c =
    let fits = c.ranges.id in
    let quota = c.ranges.quota in
    let first = c.in_ok-e.ensures.found in
    let found = rw c.in-Some.is at first in
    let so = c.with_fields-e.ensures in
    let p = err_from_is_err_and c.from_residual-in_err-put.result c.from_residual-in_err-put.ensures.1 in
    rw (p.1, p.2) (cause_of_fields c.args.d.now.bytes c.entry_of_id.new.d.bytes c.args.id c.args.mask c.args.flags c.args.quota
    (seen c.in-Some.e)
    (seen c.with_fields-e.result) c.in_err-put.field-0.0 c.entry_of_id.ensures.frame.same.bytes (simp to_z-of_z at found)
    (simp to_z-of_z at so) c.in_err-put.ensures.fault)

pub returns-then-are_bad_fields-clause-frame : goal.returns-then-are_bad_fields-clause-frame
returns-then-are_bad_fields-clause-frame g c =
    looked g.I.ImageRead c.args.d.now c.entry_of_id.new.d _ _ c.in_ok-e.ensures.frame (λ h. absurd cc)

pub returns-in_err-put-clause-frame : goal.returns-in_err-put-clause-frame
returns-in_err-put-clause-frame g c =
    let p = err_from_is_err_and c.from_residual-in_err-put.result c.from_residual-in_err-put.ensures.1 in
    rw (p.1, p.2) (drafted g.I.ImageRead c.args.d.now c.entry_of_id.new.d c.put.new.d _ _ _ c.in_ok-e.ensures.frame
    c.in_err-put.ensures.frame (λ h. cc))

pub returns-clause-frame : goal.returns-clause-frame
returns-clause-frame g c =
    drafted g.I.ImageRead c.args.d.now c.entry_of_id.new.d c.put.new.d _ _ _ c.in_ok-e.ensures.frame c.in_ok-put.ensures.frame
    (λ h. absurd cc)

pub returns-in_default-clause-meant : goal.returns-in_default-clause-meant
returns-in_default-clause-meant g c =
    let fits = c.ranges.id in
    let first = c.in_ok-e.ensures.found in
    let none = rw c.in_default.is at first in
    refused c.args.d.now.bytes c.entry_of_id.new.d.bytes
    (λ (r : Registry). of_entry (r.entry c.args.id) (fields_set c.args.mask c.args.flags c.args.quota)) 267268 _
    (no_fields c.args.d.now.bytes c.args.id (fields_set c.args.mask c.args.flags c.args.quota) (simp to_z-of_z at none)) refl
    c.entry_of_id.ensures.frame.same.bytes
