-- A write that is answered Unknown, and that a later order has: the run is computed.
use Rattle.std.proofs.Common.{refl}
use Rattle.xdr_base.specs.Reading.{opaque_at, count_at}
use Rattle.cell_model.specs.NodeRule.{step_by}
use Rattle.cell_examples.specs.Unknown.{UnknownIsOrdered}

pub is_ordered : UnknownIsOrdered
unfolding step_by opaque_at count_at
is_ordered = record {
  run = (refl, (refl, (refl, (refl, (refl, (refl, (refl, (refl, (refl, (refl, (refl, (refl, (refl, (refl, (refl, (refl, tt))))))))))))))));
  answered = refl;
  before = refl;
  later = refl;
}
