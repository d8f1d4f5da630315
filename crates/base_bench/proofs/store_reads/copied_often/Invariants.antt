use Rattle.std.proofs.Common.{◌≡◌, length}
use Rattle.base_bench.specs.declared.store_reads.TheConstants.{LEN}
use Rattle.base_bench.proofs.store_reads.copied_often.Given as goal

-- both have the length of a round
abbrev pub invariant-loop-turn : goal.invariant-loop-turn
invariant-loop-turn l = record {
  from : length l.from.items ≡ LEN;
  to : length l.to.items ≡ LEN;
}
