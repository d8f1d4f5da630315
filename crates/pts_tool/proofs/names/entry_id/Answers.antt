use Rattle.std.proofs.Common.{Ok, ap, refl, rules}
use Rattle.std.specs.Prelude.{FitsSigned}
use Rattle.std.specs.Int.{w32}
use Rattle.std.proofs.lemmas.Int.{to_z-of_z}
use Rattle.pts_tool.proofs.Named.{ran_name, ran_number}
use Rattle.pts_tool.proofs.names.entry_id.Goals as goal

pub returns-in-Some : goal.returns-in-Some
returns-in-Some g c =
    let fits0 : FitsSigned w32 c.in-Some.id = search rules in
    ran_number c.args.entry.now c.in-Some.id _ _ _ c.in-Some.ensures (ap Ok (to_z-of_z w32 c.in-Some.id fits0))

pub returns-in-None : goal.returns-in-None
returns-in-None g c =
    ran_name c.args.entry.now _ _ _ _ _ c.in-None.ensures (rw c.word.ensures at c.name_id.ensures)
