use Rattle.std.proofs.Common.{◌≡◌}
use Rattle.base_bench.specs.Blocks.{blocks}
use Rattle.base_bench.proofs.store_commits.long_list.Given as goal

abbrev pub invariant-loop-place : goal.invariant-loop-place
invariant-loop-place l = l.changes ≡ blocks l.place
