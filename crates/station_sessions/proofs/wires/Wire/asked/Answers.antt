use Rattle.std.proofs.Common.{ℕ, ap, arith, length, length-append}
use Rattle.ubik_calls.specs.Fields.{field_spelling, spelled}
use Rattle.station_sessions.proofs.wires.Wire.asked.Goals as goal

pub encode-requires : goal.encode-requires
unfolding spelled field_spelling
encode-requires c = record {
  bounded = (tt, (tt, (tt, tt)));
  bound = omega (arith, length-append {A = ℕ}, c.if-as_slice-gt-MOST_CALL.false, ap length c.as_slice.ensures);
}
