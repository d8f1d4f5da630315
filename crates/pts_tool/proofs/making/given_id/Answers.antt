use Rattle.std.proofs.Common.{ℤ, Ok, ap, refl, rules}
use Rattle.std.specs.Prelude.{FitsSigned}
use Rattle.std.specs.Int.{w32}
use Rattle.std.proofs.lemmas.Int.{to_z-of_z}
use Rattle.tool_base.specs.Course.{gives}
use Rattle.tool_base.proofs.Walking.{ran_broken, ran_then, ran_is}
use Rattle.pts_tool.specs.Courses.{given_id}
use Rattle.pts_tool.proofs.making.given_id.Goals as goal

pub returns-in_err-ask : goal.returns-in_err-ask
unfolding given_id
returns-in_err-ask g c =
    let fits0 : FitsSigned w32 c.args.id = search rules in
    let fits1 : FitsSigned w32 c.args.owner = search rules in
    ran_broken (λ (done : Unit {0}). gives c.args.id) c.in_err-ask.field-0.0 c.from_residual-in_err-ask.result
    c.from_residual-in_err-ask.ensures.1 refl
    (rw (c.in_ok-name.ensures, c.as_slice.ensures, to_z-of_z w32 c.args.id fits0, to_z-of_z w32 c.args.owner fits1) at c.in_err-ask.ensures)

pub returns : goal.returns
unfolding given_id
returns g c =
    let fits0 : FitsSigned w32 c.args.id = search rules in
    let fits1 : FitsSigned w32 c.args.owner = search rules in
    ran_then (λ (done : Unit {0}). gives c.args.id) tt refl
    (rw (c.in_ok-name.ensures, c.as_slice.ensures, to_z-of_z w32 c.args.id fits0, to_z-of_z w32 c.args.owner fits1) at c.in_ok-ask.ensures)
    (ran_is _ _ (Ok (c.args.id)) _ tt (ap Ok (to_z-of_z w32 c.args.id fits0)))
