use Rattle.ubik_log.specs.LogGrammar.{IsCommitted}
use Rattle.base_bench.specs.Puts.{puts}
use Rattle.base_bench.specs.declared.log_text.TheConstants.{VERSION}
use Rattle.base_bench.proofs.log_text.goes_both_ways.Given as goal

abbrev pub invariant-loop : goal.invariant-loop
invariant-loop l = IsCommitted l.log (puts l.count) VERSION
