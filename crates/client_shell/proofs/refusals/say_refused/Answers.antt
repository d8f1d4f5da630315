use Rattle.std.proofs.Common.{◌∙◌, arith}
use Rattle.tool_help.specs.Answers.{line_of}
use Rattle.client_shell.proofs.Telling.{declines_short, declines_told}
use Rattle.client_shell.proofs.refusals.say_refused.Goals as goal

pub returns-in-Ok-clause-said : goal.returns-in-Ok-clause-said
returns-in-Ok-clause-said g c =
    declines_told (line_of c.args.tool c.args.why.now) c.as_str.result.now _ _ _ (c.as_str.ensures.value ∙ c.in-Ok.ensures.with_text)
    c.say_line.ensures.told

pub returns-in-Ok-clause-cause : goal.returns-in-Ok-clause-cause
returns-in-Ok-clause-cause g c = record {
  never_falls = c.say_line.ensures.cause.never_falls;
  rose = λ is. c.say_line.ensures.cause.rose (λ same. absurd (omega (arith, same)), is);
}

pub returns-in-Err-clause-said : goal.returns-in-Err-clause-said
returns-in-Err-clause-said g c = declines_short (line_of c.args.tool c.args.why.now) _ _ c.status.ensures

pub returns-in-Err-clause-cause : goal.returns-in-Err-clause-cause
returns-in-Err-clause-cause g c = record { never_falls = omega arith; rose = λ is. absurd (omega (arith, c.status.ensures, is)) }
