use Rattle.std.proofs.Common.{rules}
use Rattle.std.specs.Prelude.{FitsSigned}
use Rattle.std.specs.Int.{w32}
use Rattle.std.proofs.lemmas.Int.{to_z-of_z}
use Rattle.std.proofs.lemmas.Result.{err_from_is_err_and}
use Rattle.prdb_layout.specs.RecordEnds.{seen}
use Rattle.prdb_turns.specs.Owners.{with_owner}
use Rattle.prdb_turns.proofs.Giving.{one_err, one_ok, there_cause}
use Rattle.prdb_turns.proofs.owners.give_one.Goals as goal

pub returns-in_err-e-clause-fault : goal.returns-in_err-e-clause-fault
returns-in_err-e-clause-fault g c =
    let fits = c.ranges.id in
    let cause = c.in_err-e.ensures.fault in
    let p = err_from_is_err_and c.from_residual.result c.from_residual.ensures.1 in
    rw (p.1, p.2) (there_cause (with_owner c.args.owner) c.args.d.now.bytes c.args.id c.in_err-e.field-0.0 (simp to_z-of_z at cause))

pub returns-clause-bytes : goal.returns-clause-bytes
returns-clause-bytes g c =
    let fits = c.ranges.id in
    let other = c.ranges.owner in
    let id : FitsSigned w32 c.in_ok-e.e.id = search rules in
    let creator : FitsSigned w32 c.in_ok-e.e.creator = search rules in
    let quota : FitsSigned w32 c.in_ok-e.e.quota = search rules in
    let found = c.in_ok-e.ensures.found in
    let made = c.replace.ensures.bytes in
    one_ok c.replace.result (with_owner c.args.owner) c.args.d.now.bytes c.entry_there.new.d.bytes c.replace.new.d.bytes c.args.id
    (seen c.in_ok-e.e) (simp to_z-of_z at found) c.entry_there.ensures.frame.same.bytes (simp to_z-of_z at made)

pub returns-clause-fault : goal.returns-clause-fault
returns-clause-fault g c =
    let fits = c.ranges.id in
    let other = c.ranges.owner in
    let id : FitsSigned w32 c.in_ok-e.e.id = search rules in
    let creator : FitsSigned w32 c.in_ok-e.e.creator = search rules in
    let quota : FitsSigned w32 c.in_ok-e.e.quota = search rules in
    let found = c.in_ok-e.ensures.found in
    let cause = c.replace.ensures.fault in
    one_err c.replace.result (with_owner c.args.owner) c.args.d.now.bytes c.entry_there.new.d.bytes c.args.id (seen c.in_ok-e.e)
    (simp to_z-of_z at found) c.entry_there.ensures.frame.same.bytes (simp to_z-of_z at cause)
