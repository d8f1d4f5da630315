use Rattle.std.proofs.Common.{◌≡◌, true, false, sym, ◌∙◌}
use Rattle.base_bench.proofs.Numbers.{numbers-first, no_numbers}
use Rattle.base_bench.proofs.xdr_text.reads_numbers.Goals as goal

pub returns-then-not-next_is : goal.returns-then-not-next_is
returns-then-not-next_is c = λ whole.
    let next = c.next_is.ensures _ (c.loop-number.invariant whole ∙ numbers-first c.loop-number.number c.args.count c.loop-number-test.true) in
    let never : false ≡ true = sym c.if-not-next_is.true ∙ next.0 in
    never

pub loop-number-preserved : goal.loop-number-preserved
loop-number-preserved c = λ whole.
    (c.next_is.ensures _ (c.loop-number.invariant whole ∙ numbers-first c.loop-number.number c.args.count c.loop-number-test.true)).1

pub returns : goal.returns
returns c = λ whole.
    c.is_ok.ensures.value
    ∙ c.end.ensures.done.1 (c.loop-number.invariant whole ∙ no_numbers c.loop-number.number c.args.count c.loop-number-test.false)
