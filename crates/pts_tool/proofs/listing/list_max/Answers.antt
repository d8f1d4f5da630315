use Rattle.std.proofs.Common.{Ok, ap, refl}
use Rattle.tool_base.specs.Course.{gives}
use Rattle.tool_base.proofs.Walking.{ran_broken, ran_lacks, ran_then, ran_is}
use Rattle.pts_tool.specs.Courses.{lists_maxima}
use Rattle.pts_tool.specs.Texts.{maxima_text}
use Rattle.pts_tool.specs.declared.answers.Maxima.{Maxima}
use Rattle.pts_tool.proofs.listing.list_max.Goals as goal

pub returns-in_err-maxima : goal.returns-in_err-maxima
unfolding lists_maxima
returns-in_err-maxima g c =
    ran_broken (λ (maxima : Maxima). gives (maxima_text maxima)) c.in_err-maxima.field-0.0 c.from_residual.result
    c.from_residual.ensures.1 refl c.in_err-maxima.ensures

pub returns-in_err-text : goal.returns-in_err-text
unfolding lists_maxima
returns-in_err-text g c =
    ran_lacks (λ (maxima : Maxima). gives (maxima_text maxima)) c.in_ok-maxima.maxima c.from_residual-in_err-text.result
    c.from_residual-in_err-text.ensures.1 refl c.in_ok-maxima.ensures

pub returns : goal.returns
unfolding lists_maxima
returns g c =
    ran_then (λ (maxima : Maxima). gives (maxima_text maxima)) c.in_ok-maxima.maxima refl c.in_ok-maxima.ensures
    (ran_is _ _ (Ok (maxima_text c.in_ok-maxima.maxima)) _ tt (ap Ok c.in_ok-text.ensures))
