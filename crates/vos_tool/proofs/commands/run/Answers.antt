use Rattle.vos_tool.specs.Command.{vos_text}
use Rattle.vos_tool.proofs.Telling.{quiet_cause, told_end, told_text}
use Rattle.vos_tool.proofs.commands.run.Goals as goal

pub returns-in_err-text-clause-told : goal.returns-in_err-text-clause-told
returns-in_err-text-clause-told g c =
    told_end (vos_text c.args.words.now) _ _ _ _ _ c.in_err-text.field-0.0 c.from_residual.result c.in_err-text.ensures
    c.from_residual.ensures.1

pub returns-in_err-text-clause-cause : goal.returns-in_err-text-clause-cause
returns-in_err-text-clause-cause g c =
    quiet_cause _ (vos_text c.args.words.now) _ _ _ _ c.in_err-text.field-0.0 c.from_residual.result c.in_err-text.ensures
    c.from_residual.ensures.1

pub returns-clause-told : goal.returns-clause-told
returns-clause-told g c =
    told_text (vos_text c.args.words.now) _ _ _ _ _ _ c.in_ok-text.text c.say.result c.in_ok-text.ensures
    (rw c.as_slice.ensures at c.say.ensures.said)
