-- A write that is answered Unknown, and that a later order has not: the run is computed.
use Rattle.std.proofs.Common.{refl}
use Rattle.xdr_base.specs.Reading.{opaque_at, count_at}
use Rattle.cell_model.specs.NodeRule.{step_by}
use Rattle.cell_examples.specs.Unknown.{UnknownIsLeftOut}

pub is_left_out : UnknownIsLeftOut
unfolding step_by opaque_at count_at
is_left_out = record {
  run = (refl, (refl, (refl, (refl, (refl, (refl, (refl, (refl, (refl, (refl, (refl, (refl, (refl, (refl, (refl, (refl, (refl, (refl, (refl, (refl, (refl, (refl, (refl, (refl, (refl, tt)))))))))))))))))))))))));
  answered = refl;
  later = refl;
}
