use Rattle.std.proofs.Common.{sym, ◌∙◌, rules}
use Rattle.std.specs.Prelude.{FitsSigned}
use Rattle.std.specs.Int.{w32}
use Rattle.std.proofs.lemmas.Int.{to_z-of_z}
use Rattle.db_chains.proofs.Results.{err_so, cause_so}
use Rattle.entry_scans.specs.Views.{viewed}
use Rattle.prdb_entries.specs.Changes.{is_owned, owner_without}
use Rattle.prdb_entries.specs.Ends.{HasLeft, IsOwnedBy}
use Rattle.prdb_entries.proofs.ReplaceClauses.{when_false, when_true_ok}
use Rattle.prdb_entries.proofs.replaces.leave_owner.Goals as goal

pub returns-then-is_owned-clause-bytes : goal.returns-then-is_owned-clause-bytes
returns-then-is_owned-clause-bytes g c =
    let fits : FitsSigned w32 c.args.old.now.owner = search rules in
    let e = viewed c.args.old.now in
    when_true_ok c.leave_owned.result (is_owned e) (owner_without e.owner c.args.number) c.args.d.now.bytes c.leave_owned.new.d.bytes
    (sym c.is_owned.ensures ∙ c.if-is_owned.true) (rw (to_z-of_z w32 c.args.old.now.owner fits) at c.leave_owned.ensures.bytes)

pub returns-then-is_owned-clause-fault : goal.returns-then-is_owned-clause-fault
returns-then-is_owned-clause-fault g c =
    let fits : FitsSigned w32 c.args.old.now.owner = search rules in
    let e = viewed c.args.old.now in
    err_so c.leave_owned.result _ _ (rw (to_z-of_z w32 c.args.old.now.owner fits) at c.leave_owned.ensures.fault) (λ x cause.
    cause_so c.args.d.now.bytes (HasLeft e c.args.number) (IsOwnedBy e.owner c.args.number) x
    (λ image has. has (sym c.is_owned.ensures ∙ c.if-is_owned.true)) cause)

pub returns-clause-bytes : goal.returns-clause-bytes
returns-clause-bytes g c =
    let e = viewed c.args.old.now in
    when_false (is_owned e) (owner_without e.owner c.args.number) c.args.d.now.bytes (sym c.is_owned.ensures ∙ c.if-is_owned.false)
