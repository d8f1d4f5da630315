use Rattle.std.proofs.Common.{rules, arith}
use Rattle.std.proofs.lemmas.Result.{err_from_is_err_and}
use Rattle.db_chains.proofs.Results.{err_so}
use Rattle.db_chains.proofs.Drafted.{drafts_on}
use Rattle.entry_scans.specs.Views.{viewed}
use Rattle.prdb_layout.specs.RecordEnds.{seen}
use Rattle.prdb_entries.specs.Changes.{owner_cost, owner_out_cost, owners_cost}
use Rattle.prdb_entries.proofs.ReplaceClauses.{entered_cause, ids_other, ids_same, left_cause, other_owner_ok, same_owner}
use Rattle.prdb_entries.proofs.replaces.move_owner.Goals as goal

pub returns-then-old-new-clause-bytes : goal.returns-then-old-new-clause-bytes
returns-then-old-new-clause-bytes g c =
    same_owner c.args.d.now.bytes (viewed c.args.old.now) (seen c.args.new.now) c.args.number
    (ids_same c.args.old.now.owner c.args.new.now.owner (search rules) (search rules) c.if-old-new.true)

pub returns-in_err-leave_owner-clause-fault : goal.returns-in_err-leave_owner-clause-fault
returns-in_err-leave_owner-clause-fault g c =
    let p = err_from_is_err_and c.from_residual.result c.from_residual.ensures.1 in
    rw (p.1, p.2) (left_cause c.args.d.now.bytes (viewed c.args.old.now) (seen c.args.new.now) c.args.number
    c.in_err-leave_owner.field-0.0 (ids_other c.args.old.now.owner c.args.new.now.owner c.if-old-new.false)
    c.in_err-leave_owner.ensures.fault)

pub returns-clause-bytes : goal.returns-clause-bytes
returns-clause-bytes g c =
    other_owner_ok c.enter_owner.result c.args.d.now.bytes c.leave_owner.new.d.bytes c.enter_owner.new.d.bytes (viewed c.args.old.now)
    (seen c.args.new.now) c.args.number (ids_other c.args.old.now.owner c.args.new.now.owner c.if-old-new.false)
    c.in_ok-leave_owner.ensures.bytes c.enter_owner.ensures.bytes

pub returns-clause-fault : goal.returns-clause-fault
returns-clause-fault g c =
    err_so c.enter_owner.result _ _ c.enter_owner.ensures.fault (λ x cause.
    entered_cause c.args.d.now.bytes c.leave_owner.new.d.bytes (viewed c.args.old.now) (seen c.args.new.now) c.args.number x
    (ids_other c.args.old.now.owner c.args.new.now.owner c.if-old-new.false) c.in_ok-leave_owner.ensures.bytes cause)

pub returns-clause-frame : goal.returns-clause-frame
returns-clause-frame g c =
    let layout = c.args.d.now.layout in
    let len = c.args.d.now.len in
    drafts_on g.I.ImageRead (owner_out_cost layout len) owner_cost (owners_cost layout len) c.args.d.now c.leave_owner.new.d
    c.enter_owner.new.d _ _ c.leave_owner.ensures.frame c.leave_owner.ensures.len c.enter_owner.ensures.frame (omega arith)
