use Rattle.std.specs.Int.{w32}
use Rattle.std.proofs.lemmas.Int.{to_z-of_z}
use Rattle.db_image.specs.declared.faults.RecordFault.TheVariants.{BadRecord}
use Rattle.db_chains.proofs.Results.{err_so, cause_so}
use Rattle.prdb_entries.specs.Ends.{HasLink, IsOwnedBy}
use Rattle.prdb_entries.proofs.InsertClauses.{none_fault, number_of_link}
use Rattle.prdb_entries.proofs.RemoveClauses.{owned_cause, owner_left_ok}
use Rattle.prdb_entries.proofs.removes.leave_owned.Goals as goal

pub returns-in_default-clause-fault : goal.returns-in_default-clause-fault
returns-in_default-clause-fault g c =
    cause_so c.args.d.now.bytes (IsOwnedBy c.args.owner c.args.number) (HasLink c.args.owner) (BadRecord 0) (λ image is. is.0)
    (none_fault c.args.d.now.bytes c.args.owner 0 c.in_ok-link.field-0 c.in_default.is
    (rw (to_z-of_z w32 c.args.owner c.ranges.owner) at c.in_ok-link.ensures.found))

pub returns-clause-bytes : goal.returns-clause-bytes
returns-clause-bytes g c =
    owner_left_ok c.take_out.result c.args.d.now.bytes c.find_link.new.d.bytes c.take_out.new.d.bytes c.args.owner c.args.number
    c.in-Some.link.word c.find_link.ensures.frame.looks.same.bytes
    (number_of_link c.args.d.now.bytes c.args.owner c.in_ok-link.field-0 c.in-Some.link c.in-Some.is
    (rw (to_z-of_z w32 c.args.owner c.ranges.owner) at c.in_ok-link.ensures.exact))
    (rw (c.owned_links.ensures.is, c.owned_place.ensures.place) at c.take_out.ensures.bytes)

pub returns-clause-fault : goal.returns-clause-fault
returns-clause-fault g c =
    err_so c.take_out.result _ _ (rw (c.owned_links.ensures.is, c.owned_place.ensures.place) at c.take_out.ensures.fault) (λ x cause.
    owned_cause c.args.d.now.bytes c.find_link.new.d.bytes c.args.owner c.args.number c.in-Some.link.word x
    c.find_link.ensures.frame.looks.same.bytes
    (number_of_link c.args.d.now.bytes c.args.owner c.in_ok-link.field-0 c.in-Some.link c.in-Some.is
    (rw (to_z-of_z w32 c.args.owner c.ranges.owner) at c.in_ok-link.ensures.exact)) cause)
