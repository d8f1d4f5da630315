use Rattle.std.proofs.Common.{◌≡◌, ◌++◌}
use Rattle.prdb_lists.specs.Blocks.{ids_in}
use Rattle.prdb_lists.proofs.blocks.read_ids.Given as goal

abbrev pub invariant-loop-i : goal.invariant-loop-i
invariant-loop-i l = l.ids ≡ l.fn.ids ++ ids_in l.block l.at l.i
