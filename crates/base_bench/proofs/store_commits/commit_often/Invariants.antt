use Rattle.std.proofs.Common.{◌≡◌, ◌≤◌, None}
use Rattle.ubik_store.specs.Store.{IsSound}
use Rattle.base_bench.proofs.store_commits.commit_often.Given as goal

-- so many blocks were committed, each under the next version
abbrev pub invariant-loop-turn : goal.invariant-loop-turn
invariant-loop-turn g l = record {
  sound : IsSound g.D.Disk l.store;
  none : l.store.begun ≡ None;
  long : 65536 ≤ l.store.len;
  counter : l.store.version.counter ≡ l.turn;
}
