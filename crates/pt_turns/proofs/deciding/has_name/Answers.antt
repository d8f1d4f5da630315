use Rattle.pt_turns.proofs.Shared.{has_so}
use Rattle.pt_turns.proofs.deciding.has_name.Goals as goal

pub returns-clause-found : goal.returns-clause-found
returns-clause-found g c =
    has_so c.args.d.now.bytes c.args.name.now c.in_ok-entry_of_name.field-0 c.is_some.result c.in_ok-entry_of_name.ensures.found
    c.is_some.ensures
