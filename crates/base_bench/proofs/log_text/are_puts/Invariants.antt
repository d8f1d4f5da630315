use Rattle.std.proofs.Common.{◌≡◌, take}
use Rattle.base_bench.specs.Puts.{puts}
use Rattle.base_bench.proofs.log_text.are_puts.Given as goal

abbrev pub invariant-loop-at : goal.invariant-loop-at
invariant-loop-at l = take l.at l.changes ≡ take l.at (puts l.count)
