use Rattle.db_chains.proofs.Results.{err_so}
use Rattle.prdb_finds.proofs.Lookups.{name_cause, name_first, ok_named}
use Rattle.prdb_finds.proofs.finds.find_name.Goals as goal

pub returns-clause-found : goal.returns-clause-found
returns-clause-found g c =
    ok_named c.find_entry.result c.args.d.now.bytes c.args.name.now
    (rw (c.name_links.ensures.is, c.name_chain.ensures.place) at c.find_entry.ensures.found)

pub returns-clause-ended : goal.returns-clause-ended
returns-clause-ended g c = rw (c.name_links.ensures.is, c.name_chain.ensures.place) at c.find_entry.ensures.ended

pub returns-clause-bad : goal.returns-clause-bad
returns-clause-bad g c = rw (c.name_links.ensures.is, c.name_chain.ensures.place) at c.find_entry.ensures.bad

pub returns-clause-fault : goal.returns-clause-fault
returns-clause-fault g c =
    err_so c.find_entry.result _ _ (rw (c.name_links.ensures.is, c.name_chain.ensures.place) at c.find_entry.ensures.fault)
    (name_cause c.args.d.now.bytes c.args.name.now)

pub returns-clause-cost : goal.returns-clause-cost
returns-clause-cost g c = rw (c.name_links.ensures.is, c.name_chain.ensures.place) at c.find_entry.ensures.cost

pub find_entry-requires-clause-first : goal.find_entry-requires-clause-first
find_entry-requires-clause-first g c = rw (c.name_links.ensures.is, c.name_chain.ensures.place) (name_first c.args.name.now)
