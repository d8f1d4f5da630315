use Rattle.std.proofs.Common.{ℕ, arith, length-append}
use Rattle.ubik_calls.specs.Fields.{field_spelling, spelled}
use Rattle.tool_bench.proofs.service_links.answer_frame.Goals as goal

pub encode-requires : goal.encode-requires
unfolding spelled field_spelling
encode-requires c = record { bounded = (tt, (tt, (tt, (tt, tt)))); bound = omega (arith, length-append {A = ℕ}) }
