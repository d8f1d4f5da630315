use Rattle.std.proofs.lemmas.Result.{err_from_is_err_and}
use Rattle.call_grammar.specs.Reading.{list_at, rest_of}
use Rattle.call_grammar.proofs.Skipped.{begins, goes_on, uncounted}
use Rattle.call_grammar.proofs.forms.skip_list.Goals as goal

pub returns-in_err-count : goal.returns-in_err-count
returns-in_err-count g c =
    let p = err_from_is_err_and c.from_residual.result c.from_residual.ensures.1 in
    rw p.1 (uncounted g.S.Source.item_at c.args.most g.F.SkipForm.value_at c.args.from.now c.in_err-count.ensures)

pub loop-init : goal.loop-init
loop-init g c = begins g.S.Source.item_at c.args.most g.F.SkipForm.value_at c.args.from.now c.count.new.self c.in_ok-count.count c.in_ok-count.ensures

pub loop-preserved : goal.loop-preserved
loop-preserved g c = goes_on g.F.SkipForm.value_at c.in_ok-count.count c.loop.counter c.loop.from c.skip.new.from (rest_of (list_at g.S.Source.item_at c.args.most g.F.SkipForm.value_at c.args.from.now)) c.loop-test.true c.in_ok-skip.ensures c.loop.invariant
