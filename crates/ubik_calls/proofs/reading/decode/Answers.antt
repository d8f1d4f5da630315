use Rattle.std.proofs.Common.{Result, ap, ◌∙◌, subst}
use Rattle.ubik_calls.specs.declared.frames.Frame.{Frame}
use Rattle.ubik_calls.specs.declared.frames.FrameFault.{FrameFault}
use Rattle.ubik_calls.specs.Reading.{Gives, frame_of}
use Rattle.ubik_calls.proofs.FrameBack.{frame_again}
use Rattle.ubik_calls.proofs.reading.decode.Goals as goal

pub returns-clause-only : goal.returns-clause-only
returns-clause-only c = λ f is e.
    subst (λ (there : Result Frame FrameFault). Gives c.whole.result there) (ap frame_of e ∙ frame_again f is) c.whole.ensures.exact
