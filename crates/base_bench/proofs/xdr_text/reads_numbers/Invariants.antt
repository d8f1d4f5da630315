use Rattle.std.proofs.Common.{◌≡◌, ◌-◌}
use Rattle.base_bench.specs.Numbers.{numbers}
use Rattle.base_bench.proofs.xdr_text.reads_numbers.Given as goal

abbrev pub invariant-loop-number : goal.invariant-loop-number
invariant-loop-number l = l.fn.reader.rest ≡ numbers 0 l.fn.count → l.reader.rest ≡ numbers l.number (l.fn.count - l.number)
