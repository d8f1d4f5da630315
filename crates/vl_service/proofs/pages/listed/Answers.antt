use Rattle.vl_service.proofs.Paged.{page_from}
use Rattle.vl_service.proofs.pages.listed.Goals as goal

pub returns-clause-found : goal.returns-clause-found
returns-clause-found g c =
    rw c.new.ensures (page_from c.args.d.now.bytes c.args.listing.now c.args.after c.in_ok-entries.entries.items
    c.in_ok-entries.ensures.found)
