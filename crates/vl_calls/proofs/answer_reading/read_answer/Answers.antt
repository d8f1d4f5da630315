use Rattle.std.proofs.Common.{◌≡◌, None, sym, ap, ◌∙◌, arith}
use Rattle.vl_calls.specs.declared.answers.AnswerKind.{AnswerKind}
use Rattle.vl_calls.specs.Answers.{answer_of, answer_spelling, asked_for}
use Rattle.vl_calls.proofs.AnswerLaws.{spelling_again, read_alone}
use Rattle.vl_calls.proofs.answer_reading.read_answer.Goals as goal

pub returns-in-Ok-clause-found : goal.returns-in-Ok-clause-found
returns-in-Ok-clause-found c =
    read_alone (asked_for c.args.kind) c.args.bytes.now c.in-Ok.answer (λ i. omega (arith, c.type_inv.bytes i))
    (rw c.answer.ensures at c.in-Ok.ensures)

pub returns-in-Ok-clause-only : goal.returns-in-Ok-clause-only
returns-in-Ok-clause-only c = λ a fits kind e.
    sym (rw c.answer.ensures at c.in-Ok.ensures) ∙ ap (answer_of (asked_for c.args.kind)) e
    ∙ ap (λ (k : AnswerKind). answer_of k (answer_spelling a)) (sym kind) ∙ spelling_again a fits

pub returns-in-Err-None-clause-only : goal.returns-in-Err-None-clause-only
returns-in-Err-None-clause-only c = λ a fits kind e.
    let none : answer_of (asked_for c.args.kind) c.args.bytes.now ≡ None = rw
    (c.in-Err-None.field-0-is, c.answer.ensures) at c.in-Err-None.ensures in
    sym none ∙ ap (answer_of (asked_for c.args.kind)) e ∙ ap (λ (k : AnswerKind). answer_of k (answer_spelling a)) (sym kind)
    ∙ spelling_again a fits
