use Rattle.std.proofs.Common.{◌≡◌, subst, sym, ◌∙◌, rules, arith}
use Rattle.std.specs.Prelude.{FitsSigned, IfErr, OnOk}
use Rattle.std.specs.Option.{option_map}
use Rattle.std.specs.Int.{w32}
use Rattle.std.proofs.lemmas.Int.{to_z-of_z}
use Rattle.std.proofs.lemmas.Result.{err_from_is_err_and}
use Rattle.db_blocks.specs.Ends.{HasCause}
use Rattle.db_chains.proofs.Results.{err_so}
use Rattle.db_chains.proofs.Drafted.{drafts_on}
use Rattle.entry_scans.specs.Views.{viewed}
use Rattle.prdb_layout.specs.State.{PrEntry}
use Rattle.prdb_entries.specs.Changes.{leave_cost, left, named_out_cost, owner_out_cost}
use Rattle.prdb_entries.specs.Ends.{StandsInChains}
use Rattle.prdb_entries.proofs.RemoveClauses.{alone_left, named_cause, owned_left_ok, owner_cause}
use Rattle.prdb_entries.proofs.removes.leave.Goals as goal

pub returns-in_err-leave_named-clause-fault : goal.returns-in_err-leave_named-clause-fault
returns-in_err-leave_named-clause-fault g c =
    let fits : FitsSigned w32 c.entry_in-e.result.id = search rules in
    let p = err_from_is_err_and c.from_residual.result c.from_residual.ensures.1 in
    rw (p.1, p.2) (subst (λ (e : PrEntry). HasCause c.args.d.now.bytes (StandsInChains c.args.number e) c.in_err-leave_named.field-0.0)
    c.entry_in-e.ensures
    (named_cause c.args.d.now.bytes (viewed c.entry_in-e.result) c.args.number c.in_err-leave_named.field-0.0
    (rw (to_z-of_z w32 c.entry_in-e.result.id fits) at c.in_err-leave_named.ensures.fault)))

pub returns-then-is_owned-clause-bytes : goal.returns-then-is_owned-clause-bytes
returns-then-is_owned-clause-bytes g c =
    let fits : FitsSigned w32 c.entry_in-e.result.id = search rules in
    let also : FitsSigned w32 c.entry_in-e.result.owner = search rules in
    subst (λ (e : PrEntry). OnOk c.leave_owned.result (c.leave_owned.new.d.bytes ≡ option_map (left c.args.number e) c.args.d.now.bytes))
    c.entry_in-e.ensures
    (owned_left_ok c.leave_owned.result c.args.d.now.bytes c.leave_named.new.d.bytes c.leave_owned.new.d.bytes (viewed c.entry_in-e.result)
    c.args.number (sym c.is_owned.ensures ∙ c.if-is_owned.true)
    (rw (to_z-of_z w32 c.entry_in-e.result.id fits) at c.in_ok-leave_named.ensures.bytes)
    (rw (to_z-of_z w32 c.entry_in-e.result.owner also) at c.leave_owned.ensures.bytes))

pub returns-then-is_owned-clause-fault : goal.returns-then-is_owned-clause-fault
returns-then-is_owned-clause-fault g c =
    let fits : FitsSigned w32 c.entry_in-e.result.id = search rules in
    let also : FitsSigned w32 c.entry_in-e.result.owner = search rules in
    subst (λ (e : PrEntry). IfErr c.leave_owned.result (HasCause c.args.d.now.bytes (StandsInChains c.args.number e))) c.entry_in-e.ensures
    (err_so c.leave_owned.result _ _ (rw (to_z-of_z w32 c.entry_in-e.result.owner also) at c.leave_owned.ensures.fault) (λ x cause.
    owner_cause c.args.d.now.bytes c.leave_named.new.d.bytes (viewed c.entry_in-e.result) c.args.number x
    (sym c.is_owned.ensures ∙ c.if-is_owned.true)
    (rw (to_z-of_z w32 c.entry_in-e.result.id fits) at c.in_ok-leave_named.ensures.bytes) cause))

pub returns-then-is_owned-clause-frame : goal.returns-then-is_owned-clause-frame
returns-then-is_owned-clause-frame g c =
    let layout = c.args.d.now.layout in
    let len = c.args.d.now.len in
    drafts_on g.I.ImageRead (named_out_cost layout len) owner_out_cost (leave_cost layout len) c.args.d.now c.leave_named.new.d
    c.leave_owned.new.d _ _ c.leave_named.ensures.frame c.leave_named.ensures.len c.leave_owned.ensures.frame (omega arith)

pub returns-clause-bytes : goal.returns-clause-bytes
returns-clause-bytes g c =
    let fits : FitsSigned w32 c.entry_in-e.result.id = search rules in
    subst (λ (e : PrEntry). c.leave_named.new.d.bytes ≡ option_map (left c.args.number e) c.args.d.now.bytes) c.entry_in-e.ensures
    (alone_left c.args.d.now.bytes c.leave_named.new.d.bytes (viewed c.entry_in-e.result) c.args.number
    (sym c.is_owned.ensures ∙ c.if-is_owned.false)
    (rw (to_z-of_z w32 c.entry_in-e.result.id fits) at c.in_ok-leave_named.ensures.bytes))
