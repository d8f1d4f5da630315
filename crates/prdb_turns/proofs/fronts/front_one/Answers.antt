use Rattle.std.proofs.Common.{◌≡◌, ◌<◌, ◌^◌, ℕ, false, List, IfErr, OnOk, sym, subst, ◌∙◌, rules}
use Rattle.std.specs.Prelude.{FitsSigned}
use Rattle.std.specs.Int.{w32}
use Rattle.std.specs.Option.{option_map}
use Rattle.std.proofs.lemmas.Int.{to_z-of_z}
use Rattle.std.proofs.lemmas.Result.{err_from_is_err_and}
use Rattle.prdb_layout.specs.RecordEnds.{seen}
use Rattle.prdb_layout.specs.Registry.{MayReplace}
use Rattle.pt_service.specs.Fitting.{entry_fits}
use Rattle.pt_service.proofs.Entries.{record_is}
use Rattle.prdb_finds.specs.Ends.{HasCauseWhere}
use Rattle.prdb_entries.specs.Changes.{after_replace}
use Rattle.prdb_turns.specs.Fronts.{fronted}
use Rattle.prdb_turns.proofs.Fronted.{bad_name}
use Rattle.prdb_turns.proofs.Giving.{one_err, one_ok, there_cause}
use Rattle.prdb_turns.proofs.fronts.front_one.Goals as goal

pub returns-in_err-e-clause-fault : goal.returns-in_err-e-clause-fault
returns-in_err-e-clause-fault g c =
    let fits = c.ranges.id in
    let cause = c.in_err-e.ensures.fault in
    let p = err_from_is_err_and c.from_residual.result c.from_residual.ensures.1 in
    rw (p.1, p.2) (there_cause (fronted c.args.front.now) c.args.d.now.bytes c.args.id c.in_err-e.field-0.0 (simp to_z-of_z at cause))

pub returns-then-not-entry_fits-clause-fault : goal.returns-then-not-entry_fits-clause-fault
returns-then-not-entry_fits-clause-fault g c =
    let fits = c.ranges.id in
    let found = c.in_ok-e.ensures.found in
    let text = c.as_slice.ensures in
    let called = c.in_ok-name.ensures in
    let front = rw text at called in
    let bad = sym c.entry_fits.ensures ∙ c.if-not-entry_fits.true in
    bad_name (fronted c.args.front.now) c.args.d.now.bytes c.args.id (seen c.in_ok-e.e) 0 (simp to_z-of_z at found)
    (subst (λ (n : List ℕ). entry_fits (record (seen c.in_ok-e.e) { name = n }) ≡ false) (c.new.ensures ∙ front) bad)

pub replace-requires-clause-entry : goal.replace-requires-clause-entry
replace-requires-clause-entry g c =
    let flags : c.in_ok-e.e.flags < 2 ^ 32 = search rules in
    let id : FitsSigned w32 c.in_ok-e.e.id = search rules in
    let owner : FitsSigned w32 c.in_ok-e.e.owner = search rules in
    let creator : FitsSigned w32 c.in_ok-e.e.creator = search rules in
    let quota : FitsSigned w32 c.in_ok-e.e.quota = search rules in
    record_is (record (seen c.in_ok-e.e) { name = c.new.result }) flags id owner creator quota
    (sym c.entry_fits.ensures ∙ c.if-not-entry_fits.false)

pub returns-clause-bytes : goal.returns-clause-bytes
returns-clause-bytes g c =
    let fits = c.ranges.id in
    let found = c.in_ok-e.ensures.found in
    let text = c.as_slice.ensures in
    let called = c.in_ok-name.ensures in
    let front = rw text at called in
    let made = c.replace.ensures.bytes in
    one_ok c.replace.result (fronted c.args.front.now) c.args.d.now.bytes c.entry_there.new.d.bytes c.replace.new.d.bytes c.args.id
    (seen c.in_ok-e.e) (simp to_z-of_z at found) c.entry_there.ensures.frame.same.bytes
    (subst (λ (n : List ℕ). OnOk c.replace.result (c.replace.new.d.bytes
    ≡ option_map (after_replace c.args.id (record (seen c.in_ok-e.e) { name = n })) c.entry_there.new.d.bytes)) (c.new.ensures ∙ front)
    (simp to_z-of_z at made))

pub returns-clause-fault : goal.returns-clause-fault
returns-clause-fault g c =
    let fits = c.ranges.id in
    let found = c.in_ok-e.ensures.found in
    let text = c.as_slice.ensures in
    let called = c.in_ok-name.ensures in
    let front = rw text at called in
    let cause = c.replace.ensures.fault in
    one_err c.replace.result (fronted c.args.front.now) c.args.d.now.bytes c.entry_there.new.d.bytes c.args.id (seen c.in_ok-e.e)
    (simp to_z-of_z at found) c.entry_there.ensures.frame.same.bytes
    (subst (λ (n : List ℕ). IfErr c.replace.result (HasCauseWhere
    (λ r m. MayReplace c.args.id (record (seen c.in_ok-e.e) { name = n }) r) c.entry_there.new.d.bytes)) (c.new.ensures ∙ front)
    (simp to_z-of_z at cause))
