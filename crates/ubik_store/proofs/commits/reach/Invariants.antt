use Rattle.std.proofs.Common.{ℕ, ◌+◌, ◌<◌, ◌≤◌, get_or}
use Rattle.ubik_types.specs.declared.images.Change.{Change}
use Rattle.ubik_store.specs.Redo.{Ends}
use Rattle.ubik_store.proofs.commits.reach.Given as goal

abbrev pub invariant-loop-change : goal.invariant-loop-change
invariant-loop-change l =
    record {
      ends : (k : ℕ) (d : Change) → k < l.change-index → Ends (get_or l.changes k d) (64 + l.reach);
      within : l.reach ≤ 16777216;
    }
