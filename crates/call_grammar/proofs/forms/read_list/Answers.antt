use Rattle.std.proofs.lemmas.Result.{err_from_is_err_and}
use Rattle.call_grammar.specs.Reading.{list_at}
use Rattle.call_grammar.proofs.Loop.{counted, uncounted, goes_on, ends_by, is_done}
use Rattle.call_grammar.proofs.forms.read_list.Goals as goal

pub returns-in_err-count : goal.returns-in_err-count
returns-in_err-count g c =
    let p = err_from_is_err_and c.from_residual.result c.from_residual.ensures.1 in
    rw (p.1, p.2) (uncounted g.S.Source.item_at c.args.most g.F.Form.value_at c.args.from.now c.in_err-count.ensures)

pub loop-init : goal.loop-init
loop-init g c = counted g.S.Source.item_at c.args.most g.F.Form.value_at c.new-items.result.items c.args.from.now c.count.new.self c.in_ok-count.count c.new-items.ensures.items c.in_ok-count.ensures

pub returns-in_err-item : goal.returns-in_err-item
returns-in_err-item g c =
    let p = err_from_is_err_and c.from_residual-in_err-item.result c.from_residual-in_err-item.ensures.1 in
    rw (p.1, p.2) (ends_by g.F.Form.value_at c.in_err-item.field-0.0 c.loop.items.items c.in_ok-count.count c.loop.counter c.loop.from (list_at g.S.Source.item_at c.args.most g.F.Form.value_at c.args.from.now) c.loop-test.true c.in_err-item.ensures c.loop.invariant)

pub loop-preserved : goal.loop-preserved
loop-preserved g c =
    rw c.in_ok-push.ensures.items (goes_on g.F.Form.value_at c.loop.items.items c.in_ok-count.count c.loop.counter c.loop.from c.in_ok-item.item c.read.new.from (list_at g.S.Source.item_at c.args.most g.F.Form.value_at c.args.from.now) c.loop-test.true c.in_ok-item.ensures c.loop.invariant)

pub returns : goal.returns
returns g c = rw c.new.ensures (is_done g.F.Form.value_at c.loop.items.items c.in_ok-count.count c.loop.counter c.loop.from (list_at g.S.Source.item_at c.args.most g.F.Form.value_at c.args.from.now) c.loop-test.false c.loop.invariant)
