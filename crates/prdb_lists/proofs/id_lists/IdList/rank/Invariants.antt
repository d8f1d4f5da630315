use Rattle.std.proofs.Common.{ℕ, ℤ, ◌<◌, get_or}
use Rattle.std.specs.Prelude.{◌<ℤ◌}
use Rattle.prdb_lists.proofs.id_lists.IdList.rank.Given as goal

abbrev pub invariant-loop-i : goal.invariant-loop-i
invariant-loop-i l = (k : ℕ) (d : ℤ) → k < l.i → get_or l.ids k d <ℤ l.id
