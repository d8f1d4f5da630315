use Rattle.std.proofs.Common.{ℕ, refl}
use Rattle.tool_base.specs.Course.{◌>>=◌}
use Rattle.tool_base.proofs.Walking.{ran_broken, ran_then}
use Rattle.vl_calls.specs.declared.calls.VlCall.TheVariants as call
use Rattle.vos_tool.specs.Asking.{asks_done}
use Rattle.vos_tool.specs.Deleting.{deletes}
use Rattle.vos_tool.specs.Volumes.{any_type}
use Rattle.vos_tool.proofs.deleting.delete.Goals as goal

pub returns-in_err-id : goal.returns-in_err-id
unfolding deletes
returns-in_err-id g c =
    ran_broken (λ (id : ℕ). asks_done (call.DeleteEntry id any_type)) c.in_err-id.field-0.0 c.from_residual.result
    c.from_residual.ensures.1 refl c.in_err-id.ensures

pub returns : goal.returns
unfolding deletes
returns g c =
    ran_then (λ (id : ℕ). asks_done (call.DeleteEntry id any_type)) c.in_ok-id.id refl c.in_ok-id.ensures
    (c.ask.ensures.ran)
