use Rattle.std.proofs.Common.{ℤ, pos, refl, rules}
use Rattle.std.specs.Prelude.{FitsSigned}
use Rattle.std.specs.Int.{w32}
use Rattle.std.proofs.lemmas.Int.{to_z-of_z}
use Rattle.pt_calls.specs.declared.calls.PtCall.TheVariants as call
use Rattle.tool_base.specs.Course.{◌>>=◌}
use Rattle.tool_base.proofs.Walking.{ran_broken, ran_then}
use Rattle.pts_tool.specs.Courses.{changes, does}
use Rattle.pts_tool.specs.Names.{owner_id}
use Rattle.pts_tool.proofs.making.change.Goals as goal

pub returns-in_err-id : goal.returns-in_err-id
unfolding changes
returns-in_err-id g c =
    ran_broken (λ (id : ℤ). owner_id c.args.owner.now >>= λ (by : ℤ). does (call.ChangeEntry id c.args.name.now by (pos 0)))
    c.in_err-id.field-0.0 c.from_residual-in_err-id.result c.from_residual-in_err-id.ensures.1 refl c.in_err-id.ensures

pub returns-in_err-owner : goal.returns-in_err-owner
unfolding changes
returns-in_err-owner g c =
    ran_then (λ (id : ℤ). owner_id c.args.owner.now >>= λ (by : ℤ). does (call.ChangeEntry id c.args.name.now by (pos 0))) c.in_ok-id.id
    refl c.in_ok-id.ensures
    (ran_broken (λ (by : ℤ). does (call.ChangeEntry c.in_ok-id.id c.args.name.now by (pos 0))) c.in_err-owner.field-0.0
    c.from_residual-in_err-owner.result c.from_residual-in_err-owner.ensures.1 refl c.in_err-owner.ensures)

pub returns : goal.returns
unfolding changes
returns g c =
    let fits0 : FitsSigned w32 c.in_ok-id.id = search rules in
    let fits1 : FitsSigned w32 c.in_ok-owner.owner = search rules in
    ran_then (λ (id : ℤ). owner_id c.args.owner.now >>= λ (by : ℤ). does (call.ChangeEntry id c.args.name.now by (pos 0))) c.in_ok-id.id
    refl c.in_ok-id.ensures
    (ran_then (λ (by : ℤ). does (call.ChangeEntry c.in_ok-id.id c.args.name.now by (pos 0))) c.in_ok-owner.owner refl c.in_ok-owner.ensures
    ((rw (c.in_ok-name.ensures, c.as_slice.ensures, to_z-of_z w32 c.in_ok-id.id fits0, to_z-of_z w32 c.in_ok-owner.owner fits1) at
    c.do_call.ensures)))
