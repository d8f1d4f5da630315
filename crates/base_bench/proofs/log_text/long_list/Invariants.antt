use Rattle.std.proofs.Common.{◌≡◌}
use Rattle.base_bench.specs.Puts.{puts}
use Rattle.base_bench.proofs.log_text.long_list.Given as goal

abbrev pub invariant-loop-at : goal.invariant-loop-at
invariant-loop-at l = l.changes ≡ puts l.at
