use Rattle.std.proofs.Common.{ℕ, List, [], Ok, refl, ap, ◌∙◌}
use Rattle.tool_base.specs.Course.{gives}
use Rattle.tool_base.proofs.Walking.{ran_broken, ran_then, ran_is}
use Rattle.pts_tool.specs.Courses.{does}
use Rattle.pts_tool.proofs.setting.do_call.Goals as goal

pub returns-in_err-ask : goal.returns-in_err-ask
unfolding does
returns-in_err-ask g c =
    ran_broken (λ (done : Unit {0}). gives {A = List ℕ} []) c.in_err-ask.field-0.0 c.from_residual.result c.from_residual.ensures.1 refl
    c.in_err-ask.ensures

pub returns : goal.returns
unfolding does
returns g c =
    ran_then (λ (done : Unit {0}). gives {A = List ℕ} []) tt refl c.in_ok-ask.ensures
    (ran_is _ _ (Ok ([])) _ tt (ap Ok (c.new.ensures ∙ c.new-text.ensures.items)))
