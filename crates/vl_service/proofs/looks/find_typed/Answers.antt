use Rattle.std.proofs.Common.{Bool, Some, None, cond, sym, ap, ◌∙◌, refl}
use Rattle.std.proofs.lemmas.Int.{to_z-of_z}
use Rattle.vl_service.proofs.Found.{typed_found}
use Rattle.vl_service.proofs.looks.find_typed.Goals as goal

pub returns-then-is_of_type-clause-found : goal.returns-then-is_of_type-clause-found
returns-then-is_of_type-clause-found g c =
    let fits = c.ranges.volume_type in
    let test = sym c.is_of_type.ensures ∙ c.if-is_of_type.true in
    let met = simp to_z-of_z at test in
    let found = c.in_ok-entry.ensures.found in
    typed_found c.args.d.now.bytes c.args.volume_type c.args.id (Some c.in-Some.entry) (Some c.in-Some.entry) (rw c.in-Some.is at found)
    (ap (λ (b : Bool). cond b (Some c.in-Some.entry) None) met)

pub returns-else-is_of_type-clause-found : goal.returns-else-is_of_type-clause-found
returns-else-is_of_type-clause-found g c =
    let fits = c.ranges.volume_type in
    let test = sym c.is_of_type.ensures ∙ c.if-is_of_type.false in
    let met = simp to_z-of_z at test in
    let found = c.in_ok-entry.ensures.found in
    typed_found c.args.d.now.bytes c.args.volume_type c.args.id (Some c.in-Some.entry) None (rw c.in-Some.is at found)
    (ap (λ (b : Bool). cond b (Some c.in-Some.entry) None) met)

pub returns-in-None-clause-found : goal.returns-in-None-clause-found
returns-in-None-clause-found g c =
    let found = c.in_ok-entry.ensures.found in
    typed_found c.args.d.now.bytes c.args.volume_type c.args.id None None (rw c.in-None.is at found) refl
