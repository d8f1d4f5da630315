use Rattle.std.proofs.Common.{arith}
use Rattle.db_image.proofs.ReadSteps.{asks_none}
use Rattle.vldb_entries.proofs.EntryAgain.{entry_small}
use Rattle.vldb_records.specs.Sought.{is_sought}
use Rattle.vldb_records.proofs.Lookups.{costs_on, read_some}
use Rattle.vldb_records.proofs.finds.find_entry.Goals as goal

pub returns-in_default-clause-found : goal.returns-in_default-clause-found
returns-in_default-clause-found g c = let first = c.in_ok-link.ensures.found in rw c.in_default.is at first

pub returns-in_default-clause-cost : goal.returns-in_default-clause-cost
returns-in_default-clause-cost g c =
    costs_on g.I.ImageRead c.args.d.now.bytes c.args.links c.args.at 4 0 1024 c.args.d.now c.find_link.new.d c.find_link.new.d (omega arith)
    c.find_link.ensures.cost (asks_none 0 (g.I.ImageRead.asked c.find_link.new.d.image))

pub returns-clause-found : goal.returns-clause-found
returns-clause-found g c =
    let first = c.in_ok-link.ensures.found in
    read_some c.args.d.now.bytes c.find_link.new.d.bytes c.args.links (is_sought c.args.sought) c.args.at c.in-Some.link
    c.in_ok-addresses.addresses c.in_ok-entry_in.field-0 c.find_link.ensures.frame.same.bytes (rw c.in-Some.is at first)
    c.in_ok-addresses.ensures.exact c.in_ok-entry_in.ensures

pub returns-clause-small : goal.returns-clause-small
returns-clause-small g c = entry_small c.in_ok-addresses.addresses c.in-Some.link.block c.in_ok-entry_in.field-0 c.in_ok-entry_in.ensures

pub returns-clause-cost : goal.returns-clause-cost
returns-clause-cost g c =
    costs_on g.I.ImageRead c.args.d.now.bytes c.args.links c.args.at 4 1020 1024 c.args.d.now c.find_link.new.d c.places.new.d (omega arith)
    c.find_link.ensures.cost c.places.ensures.frame.cost

pub returns-in_default-clause-ended : goal.returns-in_default-clause-ended
returns-in_default-clause-ended g c = λ none. c.in_ok-link.ensures.ended c.in_default.is
