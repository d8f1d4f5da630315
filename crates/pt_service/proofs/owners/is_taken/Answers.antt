use Rattle.pt_service.proofs.Found.{taken_is}
use Rattle.pt_service.proofs.owners.is_taken.Goals as goal

pub returns-clause-found : goal.returns-clause-found
returns-clause-found g c =
    taken_is c.args.d.now.bytes c.args.name.now c.in_ok-entry_of_name.field-0 c.is_some.result c.is_some.ensures
    c.in_ok-entry_of_name.ensures.found
