use Rattle.std.proofs.Common.{◌≡◌, ◌++◌, drop}
use Rattle.ubik_types.specs.Logged.{logged}
use Rattle.ubik_store.proofs.logged.copy_as_made.Given as goal

abbrev pub invariant-loop-change : goal.invariant-loop-change
invariant-loop-change l = l.made ++ logged l.len (drop l.change-index l.changes) ≡ logged l.initial.len l.changes
