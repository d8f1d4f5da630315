use Rattle.std.proofs.Common.{◌≡◌}
use Rattle.ubik_calls.specs.WireGrammar.{spelling}
use Rattle.base_bench.specs.LongAsk.{long_ask}
use Rattle.base_bench.proofs.frame_text.goes_both_ways.Given as goal

abbrev pub invariant-loop : goal.invariant-loop
invariant-loop l = (l.ask ≡ long_ask l.len) × (l.bytes ≡ spelling (long_ask l.len))
