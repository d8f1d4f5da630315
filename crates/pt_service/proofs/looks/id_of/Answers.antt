use Rattle.std.proofs.Common.{Some, None, refl, ◌∙◌, rules}
use Rattle.std.specs.Prelude.{FitsSigned}
use Rattle.std.specs.Int.{w32}
use Rattle.std.proofs.lemmas.Int.{to_z-of_z}
use Rattle.prdb_layout.specs.RecordEnds.{seen}
use Rattle.pt_service.proofs.Found.{id_found}
use Rattle.pt_service.proofs.looks.id_of.Goals as goal

pub returns-in-Some-clause-found : goal.returns-in-Some-clause-found
returns-in-Some-clause-found g c =
    let fits : FitsSigned w32 c.in-Some.entry.id = search rules in
    id_found c.args.d.now.bytes c.args.name.now c.deref.result.now (Some (seen c.in-Some.entry)) _
    (c.deref.ensures.value ∙ c.in_ok-name.ensures) (to_z-of_z w32 c.in-Some.entry.id fits)
    (rw c.in-Some.is at c.in_ok-entry.ensures.found)

pub returns-clause-found : goal.returns-clause-found
returns-clause-found g c =
    id_found c.args.d.now.bytes c.args.name.now c.deref.result.now None _ (c.deref.ensures.value ∙ c.in_ok-name.ensures) refl
    (rw c.in-None.is at c.in_ok-entry.ensures.found)
