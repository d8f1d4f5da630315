use Rattle.std.specs.Int.{w32}
use Rattle.std.proofs.lemmas.Int.{to_z-of_z}
use Rattle.prdb_entries.proofs.InsertClauses.{none_fault, number_of_link, owner_ok}
use Rattle.prdb_entries.proofs.inserts.enter_owned.Goals as goal

pub returns-in_default-clause-fault : goal.returns-in_default-clause-fault
returns-in_default-clause-fault g c =
    none_fault c.args.d.now.bytes c.args.owner 0 c.in_ok-link.field-0 c.in_default.is
    (rw (to_z-of_z w32 c.args.owner c.ranges.owner) at c.in_ok-link.ensures.found)

pub returns-clause-bytes : goal.returns-clause-bytes
returns-clause-bytes g c =
    owner_ok c.put_first.result c.args.d.now.bytes c.find_link.new.d.bytes c.put_first.new.d.bytes c.args.owner c.args.number
    c.in-Some.link.word c.find_link.ensures.frame.looks.same.bytes
    (number_of_link c.args.d.now.bytes c.args.owner c.in_ok-link.field-0 c.in-Some.link c.in-Some.is
    (rw (to_z-of_z w32 c.args.owner c.ranges.owner) at c.in_ok-link.ensures.exact))
    (rw (c.owned_links.ensures.is, c.owned_place.ensures.place) at c.put_first.ensures.bytes)
