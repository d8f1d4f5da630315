use Rattle.std.proofs.Common.{◌≡◌, pos, false, true, sym, ap, ◌∙◌, rules}
use Rattle.std.specs.Int.{cast_unsigned, w32}
use Rattle.std.specs.Ordering.{int_eq}
use Rattle.std.proofs.lemmas.Bool.{false_from_ne_true}
use Rattle.std.proofs.lemmas.Bool.Decides.{Decides-int_eq}
use Rattle.std.proofs.lemmas.Int.{to_z-of_z}
use Rattle.pt_service.proofs.Ownership.{owner_fronted, owner_given}
use Rattle.pt_service.proofs.owners.owner_of.Goals as goal

pub returns-then-given-ne0-clause-found : goal.returns-then-given-ne0-clause-found
returns-then-given-ne0-clause-found g c =
    let fits = c.ranges.given in
    let found = c.in_ok-found.ensures.found in
    let so = c.given_owner.ensures in
    let some : int_eq c.args.given (pos 0) ≡ false =
    false_from_ne_true (int_eq c.args.given (pos 0))
    (λ is. c.if-given-ne0.true (ap (cast_unsigned w32) ((Decides-int_eq c.args.given (pos 0)).0 is))) in
    owner_given c.args.d.now.bytes c.args.name.now c.args.given c.in_ok-found.found c.given_owner.result some (simp to_z-of_z at found)
    (simp to_z-of_z at so)

pub returns-then-has_colon-clause-found : goal.returns-then-has_colon-clause-found
returns-then-has_colon-clause-found g c =
    let fits = c.ranges.given in
    let none : int_eq c.args.given (pos 0) ≡ true = search rules in
    owner_fronted c.owner_by_front.result c.args.d.now.bytes c.args.name.now c.front_of.result.now c.args.given none
    (sym c.has_colon.ensures ∙ c.if-has_colon.true) (search rules) c.owner_by_front.ensures.found
