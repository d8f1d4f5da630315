use Rattle.client_shell.proofs.Telling.{told_front, told_whole}
use Rattle.client_shell.proofs.sayings.say_line.Goals as goal

pub returns-in-Ok-clause-told : goal.returns-in-Ok-clause-told
returns-in-Ok-clause-told g c =
    told_whole c.args.text.now c.as_bytes.result.now c.args.status _ _ c.as_bytes.ensures.value c.in-Ok.ensures.said

pub returns-in-Err-clause-told : goal.returns-in-Err-clause-told
returns-in-Err-clause-told g c =
    told_front c.args.text.now c.as_bytes.result.now c.args.status _ _ _ c.as_bytes.ensures.value c.status.ensures c.in-Err.ensures.said.1

pub returns-in-Ok-clause-cause : goal.returns-in-Ok-clause-cause
returns-in-Ok-clause-cause g c = record { never_falls = c.say.ensures.cause.never_falls; rose = λ h. absurd (h.0 h.1) }

pub returns-in-Err-clause-cause : goal.returns-in-Err-clause-cause
returns-in-Err-clause-cause g c =
    record { never_falls = c.say.ensures.cause.never_falls; rose = λ h. c.in-Err.ensures.cause.rose (cc (c.in-Err.ensures.said.0)) }
