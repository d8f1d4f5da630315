use Rattle.std.proofs.Common.{get_or}
use Rattle.std.proofs.lemmas.Result.{err_from_is_err_and}
use Rattle.pt_calls.specs.declared.shapes.Shape.TheVariants.{Number}
use Rattle.call_grammar.specs.Reading.{rest_of, values_at, xdr_item}
use Rattle.pt_calls.specs.Shapes.{shape_at, value}
use Rattle.call_grammar.proofs.Skipped.{at_drop, values_go_on, values_end, values_done}
use Rattle.pt_calls.proofs.skipping.skip_all.Goals as goal

pub returns-in_err-skip : goal.returns-in_err-skip
returns-in_err-skip c =
    let shapes = c.args.shapes.now in
    let i = c.loop-shape.shape-index in
    let total = rest_of (values_at value (shape_at xdr_item) shapes c.args.from.now) in
    let p = err_from_is_err_and c.from_residual.result c.from_residual.ensures.1 in
    rw p.1 (values_end value (shape_at xdr_item) shapes i (get_or shapes i Number) c.loop-shape.from total
    (at_drop shapes i Number c.loop-shape-test.true) c.in_err-skip.ensures c.loop-shape.invariant)

pub loop-shape-preserved : goal.loop-shape-preserved
loop-shape-preserved c =
    let shapes = c.args.shapes.now in
    let i = c.loop-shape.shape-index in
    let total = rest_of (values_at value (shape_at xdr_item) shapes c.args.from.now) in
    values_go_on value (shape_at xdr_item) shapes i (get_or shapes i Number) c.loop-shape.from c.skip.new.from total
    (at_drop shapes i Number c.loop-shape-test.true) c.in_ok-skip.ensures c.loop-shape.invariant

pub returns : goal.returns
returns c =
    values_done value (shape_at xdr_item) c.args.shapes.now c.loop-shape.shape-index c.loop-shape.from
    (rest_of (values_at value (shape_at xdr_item) c.args.shapes.now c.args.from.now)) c.loop-shape-test.false c.loop-shape.invariant
