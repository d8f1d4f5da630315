use Rattle.std.proofs.Common.{◌≡◌}
use Rattle.ubik_store.specs.Store.{IsSound}
use Rattle.base_bench.proofs.store_reads.read_round.Given as goal

-- the store is sound, and as long as before
abbrev pub invariant-loop-number : goal.invariant-loop-number
invariant-loop-number g l = record {
  sound : IsSound g.D.Disk l.store;
  len : l.store.len ≡ l.fn.store.len;
}
