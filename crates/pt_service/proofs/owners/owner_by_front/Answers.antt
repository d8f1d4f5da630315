use Rattle.std.proofs.Common.{Some, None, Ok, sym, ap, ◌∙◌, refl, rules}
use Rattle.std.specs.Prelude.{FitsSigned}
use Rattle.std.specs.Int.{w32}
use Rattle.std.proofs.lemmas.Int.{to_z-of_z}
use Rattle.pt_service.proofs.Ownership.{front_found, front_system}
use Rattle.pt_service.proofs.owners.owner_by_front.Goals as goal

pub returns-then-is_system-clause-found : goal.returns-then-is_system-clause-found
returns-then-is_system-clause-found g c = front_system c.args.d.now.bytes c.args.front.now (sym c.is_system.ensures ∙ c.if-is_system.true)

pub returns-in-Some-clause-found : goal.returns-in-Some-clause-found
returns-in-Some-clause-found g c =
    let fits : FitsSigned w32 c.in-Some.e.id = search rules in
    let found = c.in_ok-e.ensures.found in
    front_found c.args.d.now.bytes c.args.front.now (Some c.in-Some.e) _ (sym c.is_system.ensures ∙ c.if-is_system.false)
    (rw c.in-Some.is at found)
    (ap (λ z. Ok z) (to_z-of_z w32 c.in-Some.e.id fits))

pub returns-in-None-clause-found : goal.returns-in-None-clause-found
returns-in-None-clause-found g c =
    let found = c.in_ok-e.ensures.found in
    front_found c.args.d.now.bytes c.args.front.now None _ (sym c.is_system.ensures ∙ c.if-is_system.false) (rw c.in-None.is at found) refl
