use Rattle.std.proofs.Common.{◌≡◌, None, sym, ap, ◌∙◌, arith}
use Rattle.vl_calls.specs.Reading.{call_of}
use Rattle.vl_calls.proofs.Again.{spelling_again}
use Rattle.vl_calls.proofs.Taken.{read_alone}
use Rattle.vl_calls.proofs.reading.read_call.Goals as goal

pub returns-in-Ok-clause-found : goal.returns-in-Ok-clause-found
returns-in-Ok-clause-found c = read_alone c.args.bytes.now c.in-Ok.call (λ i. omega (arith, c.type_inv.bytes i)) c.in-Ok.ensures

pub returns-in-Ok-clause-only : goal.returns-in-Ok-clause-only
returns-in-Ok-clause-only c = λ d fits e. sym c.in-Ok.ensures ∙ ap call_of e ∙ spelling_again d fits

pub returns-in-Err-None-clause-only : goal.returns-in-Err-None-clause-only
returns-in-Err-None-clause-only c = λ d fits e.
    let none : call_of c.args.bytes.now ≡ None = rw c.in-Err-None.field-0-is at c.in-Err-None.ensures in
    sym none ∙ ap call_of e ∙ spelling_again d fits
