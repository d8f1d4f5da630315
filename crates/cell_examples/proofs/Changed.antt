-- Rules that are changed in one place: the runs are computed.
use Rattle.std.proofs.Common.{refl}
use Rattle.xdr_base.specs.Reading.{opaque_at, count_at}
use Rattle.cell_model.specs.NodeRule.{step_by}
use Rattle.cell_examples.specs.Changed.{HalfIsTooFew, VersionsMustAgree}

pub is_too_few : HalfIsTooFew
unfolding step_by opaque_at count_at
is_too_few = record {
  run = (refl, (refl, (refl, (refl, (refl, (refl, (refl, (refl, (refl, (refl, (refl, (refl, (refl, (refl, (refl, (refl, (refl, (refl, (refl, (refl, (refl, (refl, (refl, (refl, tt))))))))))))))))))))))));
  acknowledged = refl;
  kept = refl;
  lost = refl;
}

pub must_agree : VersionsMustAgree
unfolding step_by opaque_at count_at
must_agree = record {
  run = (refl, (refl, (refl, (refl, (refl, (refl, (refl, (refl, (refl, (refl, (refl, (refl, (refl, (refl, (refl, tt)))))))))))))));
  first = refl;
  later = refl;
  by_rule = refl;
}
