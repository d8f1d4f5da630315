use Rattle.std.proofs.Common.{◌≡◌, ◌++◌}
use Rattle.base_bench.specs.Numbers.{numbers}
use Rattle.base_bench.proofs.xdr_text.put_numbers.Given as goal

abbrev pub invariant-loop-number : goal.invariant-loop-number
invariant-loop-number l = l.writer ≡ l.fn.writer ++ numbers 0 l.number
