use Rattle.std.proofs.Common.{ℤ, Ok, refl, rules}
use Rattle.std.specs.Prelude.{FitsSigned}
use Rattle.std.specs.Int.{w32}
use Rattle.std.proofs.lemmas.Int.{to_z-of_z}
use Rattle.tool_base.specs.Course.{still}
use Rattle.tool_base.proofs.Walking.{ran_broken, ran_then, ran_is}
use Rattle.pts_tool.specs.Names.{known_id, name_id}
use Rattle.pts_tool.proofs.Named.{known_quiet}
use Rattle.pts_tool.proofs.names.name_id.Goals as goal

pub returns-in_err-id : goal.returns-in_err-id
unfolding name_id
returns-in_err-id g c =
    ran_broken (λ (id : ℤ). still (known_id c.args.name.now id)) c.in_err-id.field-0.0 c.from_residual-in_err-id.result
    c.from_residual-in_err-id.ensures.1 refl (rw (c.in_ok-names.ensures) at c.in_err-id.ensures)

pub returns : goal.returns
unfolding name_id
returns g c =
    let fits0 : FitsSigned w32 c.in_ok-id.id = search rules in
    ran_then (λ (id : ℤ). still (known_id c.args.name.now id)) c.in_ok-id.id refl (rw (c.in_ok-names.ensures) at c.in_ok-id.ensures)
    (ran_is _ _ (known_id c.args.name.now c.in_ok-id.id) _ (known_quiet c.args.name.now c.in_ok-id.id)
    (rw (to_z-of_z w32 c.in_ok-id.id fits0) at c.known_id.ensures))
