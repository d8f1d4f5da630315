use Rattle.std.proofs.Common.{◌≡◌, drop}
use Rattle.call_grammar.specs.Reading.{rest_of, values_at, xdr_item}
use Rattle.pt_calls.specs.Shapes.{shape_at, value}
use Rattle.pt_calls.proofs.skipping.skip_all.Given as goal

abbrev pub invariant-loop-shape : goal.invariant-loop-shape
invariant-loop-shape l =
    rest_of (values_at value (shape_at xdr_item) (drop l.shape-index l.shapes) l.from) ≡ rest_of
    (values_at value (shape_at xdr_item) l.shapes l.fn.from)
