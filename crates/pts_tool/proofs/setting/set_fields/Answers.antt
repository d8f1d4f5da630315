use Rattle.std.proofs.Common.{ℤ, refl, rules}
use Rattle.std.specs.Prelude.{FitsSigned}
use Rattle.std.specs.Int.{w32}
use Rattle.std.proofs.lemmas.Int.{to_z-of_z}
use Rattle.pt_calls.specs.declared.calls.PtCall.TheVariants as call
use Rattle.tool_base.proofs.Walking.{ran_broken, ran_then}
use Rattle.pts_tool.specs.Courses.{does, sets_fields}
use Rattle.pts_tool.proofs.setting.set_fields.Goals as goal

pub returns-in_err-id : goal.returns-in_err-id
unfolding sets_fields
returns-in_err-id g c =
    ran_broken (λ (id : ℤ). does (call.SetFields id c.args.mask c.args.flags c.args.quota)) c.in_err-id.field-0.0 c.from_residual.result
    c.from_residual.ensures.1 refl c.in_err-id.ensures

pub returns : goal.returns
unfolding sets_fields
returns g c =
    let fits0 : FitsSigned w32 c.in_ok-id.id = search rules in
    let fits1 : FitsSigned w32 c.args.quota = search rules in
    ran_then (λ (id : ℤ). does (call.SetFields id c.args.mask c.args.flags c.args.quota)) c.in_ok-id.id refl c.in_ok-id.ensures
    ((rw (to_z-of_z w32 c.in_ok-id.id fits0, to_z-of_z w32 c.args.quota fits1) at c.do_call.ensures))
