use Rattle.std.proofs.Common.{◌≡◌, subst, arith}
use Rattle.std.specs.Prelude.{IfErr, OnOk}
use Rattle.std.specs.Option.{option_map}
use Rattle.std.proofs.lemmas.Result.{err_from_is_err_and}
use Rattle.db_blocks.specs.Ends.{HasCause}
use Rattle.db_chains.proofs.Results.{err_so, ok_so}
use Rattle.db_chains.proofs.Drafted.{drafts_on}
use Rattle.entry_scans.specs.Views.{viewed}
use Rattle.prdb_layout.proofs.Becoming.{becomes_then}
use Rattle.prdb_layout.specs.RecordEnds.{seen}
use Rattle.prdb_layout.specs.State.{PrEntry}
use Rattle.prdb_entries.specs.Changes.{moved, moved_cost, name_cost, name_moved, owner_moved, owners_cost}
use Rattle.prdb_entries.specs.Ends.{CanMove}
use Rattle.prdb_entries.proofs.ReplaceClauses.{name_cause, owner_cause}
use Rattle.prdb_entries.proofs.replaces.move_to.Goals as goal

pub returns-in_err-move_name-clause-fault : goal.returns-in_err-move_name-clause-fault
returns-in_err-move_name-clause-fault g c =
    let p = err_from_is_err_and c.from_residual.result c.from_residual.ensures.1 in
    rw (p.1, p.2) (subst (λ (f : PrEntry). HasCause c.args.d.now.bytes (CanMove c.args.number f (seen c.args.e.now))
    c.in_err-move_name.field-0.0) c.entry_in-old.ensures
    (name_cause c.args.d.now.bytes (viewed c.entry_in-old.result) (seen c.args.e.now) c.args.number c.in_err-move_name.field-0.0
    c.in_err-move_name.ensures.fault))

pub returns-clause-bytes : goal.returns-clause-bytes
returns-clause-bytes g c =
    let f = viewed c.entry_in-old.result in
    let e = seen c.args.e.now in
    subst (λ (x : PrEntry). OnOk c.move_owner.result (c.move_owner.new.d.bytes ≡ option_map (moved c.args.number x e) c.args.d.now.bytes))
    c.entry_in-old.ensures
    (ok_so c.move_owner.result _ _ c.move_owner.ensures.bytes (λ made.
    becomes_then (name_moved f.name e.name c.args.number) (owner_moved f e c.args.number) c.args.d.now.bytes c.move_name.new.d.bytes
    c.move_owner.new.d.bytes (rw c.as_slice.ensures at c.in_ok-move_name.ensures.bytes) made))

pub returns-clause-fault : goal.returns-clause-fault
returns-clause-fault g c =
    let f = viewed c.entry_in-old.result in
    let e = seen c.args.e.now in
    subst (λ (x : PrEntry). IfErr c.move_owner.result (HasCause c.args.d.now.bytes (CanMove c.args.number x e))) c.entry_in-old.ensures
    (err_so c.move_owner.result _ _ c.move_owner.ensures.fault (λ x cause.
    owner_cause c.args.d.now.bytes c.move_name.new.d.bytes f e c.args.number x (rw c.as_slice.ensures at c.in_ok-move_name.ensures.bytes)
    cause))

pub returns-clause-frame : goal.returns-clause-frame
returns-clause-frame g c =
    let layout = c.args.d.now.layout in
    let len = c.args.d.now.len in
    drafts_on g.I.ImageRead (name_cost layout len) owners_cost (moved_cost layout len) c.args.d.now c.move_name.new.d c.move_owner.new.d _ _
    c.move_name.ensures.frame c.move_name.ensures.len c.move_owner.ensures.frame (omega arith)
