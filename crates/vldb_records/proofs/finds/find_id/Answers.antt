use Rattle.db_chains.proofs.Results.{err_so}
use Rattle.vldb_records.proofs.Lookups.{id_fault, ok_of_id}
use Rattle.vldb_records.proofs.finds.find_id.Goals as goal

pub returns-clause-found : goal.returns-clause-found
returns-clause-found g c =
    ok_of_id c.find_entry.result c.args.d.now.bytes c.args.id (rw
    (c.id_links.ensures.is, c.id_chain.ensures.place) at c.find_entry.ensures.found)

pub returns-clause-bad : goal.returns-clause-bad
returns-clause-bad g c = rw (c.id_links.ensures.is, c.id_chain.ensures.place) at c.find_entry.ensures.bad

pub returns-clause-fault : goal.returns-clause-fault
returns-clause-fault g c =
    err_so c.find_entry.result _ _ (rw (c.id_links.ensures.is, c.id_chain.ensures.place) at c.find_entry.ensures.fault)
    (id_fault c.args.d.now.bytes c.args.id)

pub returns-clause-cost : goal.returns-clause-cost
returns-clause-cost g c = rw (c.id_links.ensures.is, c.id_chain.ensures.place) at c.find_entry.ensures.cost

pub returns-clause-ended : goal.returns-clause-ended
returns-clause-ended g c = rw (c.id_links.ensures.is, c.id_chain.ensures.place) at c.find_entry.ensures.ended
