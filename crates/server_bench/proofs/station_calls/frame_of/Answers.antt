use Rattle.std.proofs.Common.{ℕ, arith, length-append}
use Rattle.ubik_calls.specs.Fields.{field_spelling, spelled}
use Rattle.server_bench.proofs.station_calls.frame_of.Goals as goal

pub encode-requires : goal.encode-requires
unfolding spelled field_spelling
encode-requires c = record { bounded = (tt, (tt, (tt, tt))); bound = omega (arith, length-append {A = ℕ}) }
