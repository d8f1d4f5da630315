use Rattle.std.specs.Int.{w32}
use Rattle.std.proofs.lemmas.Int.{to_z-of_z}
use Rattle.db_chains.proofs.Results.{err_so}
use Rattle.prdb_finds.proofs.Lookups.{id_cause, id_first, ok_of_id}
use Rattle.prdb_finds.proofs.finds.find_id.Goals as goal

pub returns-clause-found : goal.returns-clause-found
returns-clause-found g c =
    ok_of_id c.find_entry.result c.args.d.now.bytes c.args.id
    (rw (c.id_links.ensures.is, c.id_chain.ensures.place, to_z-of_z w32 c.args.id c.ranges.id) at c.find_entry.ensures.found)

pub returns-clause-ended : goal.returns-clause-ended
returns-clause-ended g c = rw (c.id_links.ensures.is, c.id_chain.ensures.place, to_z-of_z w32 c.args.id c.ranges.id) at c.find_entry.ensures.ended

pub returns-clause-bad : goal.returns-clause-bad
returns-clause-bad g c =
    rw (c.id_links.ensures.is, c.id_chain.ensures.place, to_z-of_z w32 c.args.id c.ranges.id) at c.find_entry.ensures.bad

pub returns-clause-fault : goal.returns-clause-fault
returns-clause-fault g c =
    err_so c.find_entry.result _ _
    (rw (c.id_links.ensures.is, c.id_chain.ensures.place, to_z-of_z w32 c.args.id c.ranges.id) at c.find_entry.ensures.fault)
    (id_cause c.args.d.now.bytes c.args.id)

pub returns-clause-cost : goal.returns-clause-cost
returns-clause-cost g c =
    rw (c.id_links.ensures.is, c.id_chain.ensures.place, to_z-of_z w32 c.args.id c.ranges.id) at c.find_entry.ensures.cost

pub find_entry-requires-clause-first : goal.find_entry-requires-clause-first
find_entry-requires-clause-first g c =
    rw (c.id_links.ensures.is, c.id_chain.ensures.place, to_z-of_z w32 c.args.id c.ranges.id) (id_first c.args.id)
