use Rattle.std.proofs.lemmas.Int.{to_z-of_z}
use Rattle.pt_service.proofs.Told.{unused_told}
use Rattle.pt_service.proofs.entering.is_unused.Goals as goal

pub returns-clause-found : goal.returns-clause-found
returns-clause-found g c =
    let fits = c.ranges.id in
    let found = c.in_ok-entry_of_id.ensures.found in
    unused_told c.args.d.now.bytes c.in_ok-entry_of_id.field-0 c.args.id c.is_none.result c.is_none.ensures (simp to_z-of_z at found)
