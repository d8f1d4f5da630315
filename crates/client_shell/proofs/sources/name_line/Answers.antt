use Rattle.std.proofs.Common.{◌∙◌, inr, arith}
use Rattle.client_shell.proofs.Naming.{named_told}
use Rattle.client_shell.proofs.sources.name_line.Goals as goal

pub returns-in-Ok-clause-named : goal.returns-in-Ok-clause-named
returns-in-Ok-clause-named g c =
    named_told c.args.shell.now.tool c.args.number c.args.own c.as_str.result.now _ _ _ (c.as_str.ensures.value ∙ c.in-Ok.ensures)
    c.say_line.ensures.told

pub returns-in-Err-clause-named : goal.returns-in-Err-clause-named
returns-in-Err-clause-named g c = inr (inr c.status.ensures)

pub returns-in-Err-clause-cause : goal.returns-in-Err-clause-cause
returns-in-Err-clause-cause g c = record { never_falls = omega arith; rose = λ is. absurd (omega (arith, c.status.ensures, is.1)) }
