use Rattle.std.proofs.Common.{◌≡◌, Bool, true, false, pos, ℤ, Ok, ap, sym, ◌∙◌, codes, refl, rules}
use Rattle.std.specs.Prelude.{FitsSigned}
use Rattle.std.specs.Int.{w32}
use Rattle.std.proofs.lemmas.Int.{to_z-of_z}
use Rattle.std.specs.Ordering.{int_eq}
use Rattle.tool_base.proofs.Walking.{ran_is}
use Rattle.pts_tool.specs.Courses.{owner_line}
use Rattle.pts_tool.specs.Texts.{owned_line}
use Rattle.pts_tool.proofs.listing.owner_line.Goals as goal

pub returns-in_ok-line : goal.returns-in_ok-line
unfolding owner_line
returns-in_ok-line g c =
    let fits0 : FitsSigned w32 c.args.id = search rules in
    let none : int_eq c.args.id (pos 0) ≡ true = sym (rw (to_z-of_z w32 c.args.id fits0) at c.is_nobody.ensures) ∙ c.if-is_nobody.true in
    rw none (ran_is _ _ (Ok (owned_line (codes "0") (pos 0))) _ tt (ap Ok c.in_ok-line.ensures))

pub returns-else-is_nobody : goal.returns-else-is_nobody
unfolding owner_line
returns-else-is_nobody g c =
    let fits0 : FitsSigned w32 c.args.id = search rules in
    let some : int_eq c.args.id (pos 0) ≡ false = sym (rw (to_z-of_z w32 c.args.id fits0) at c.is_nobody.ensures) ∙ c.if-is_nobody.false in
    rw some (rw (to_z-of_z w32 c.args.id fits0) at c.found_line.ensures)
