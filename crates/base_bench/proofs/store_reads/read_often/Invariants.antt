use Rattle.std.proofs.Common.{◌≤◌}
use Rattle.ubik_store.specs.Store.{IsSound}
use Rattle.base_bench.proofs.store_reads.read_often.Given as goal

-- the store is sound and long enough
abbrev pub invariant-loop-turn : goal.invariant-loop-turn
invariant-loop-turn g l = record {
  sound : IsSound g.D.Disk l.store;
  long : 65536 ≤ l.store.len;
}
