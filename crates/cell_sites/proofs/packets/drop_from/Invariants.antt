use Rattle.std.proofs.Common.{◌≡◌, ◌++◌, take, drop}
use Rattle.cell_runs.specs.Script.{dropped_of}
use Rattle.cell_sites.proofs.packets.drop_from.Given as goal

-- what is dropped in all is what was dropped so far, and what is to be dropped of the rest
abbrev pub invariant-loop-k : goal.invariant-loop-k
invariant-loop-k l = dropped_of l.host l.fn.sent l.fn.handed ≡ take l.k l.handed ++ dropped_of l.host (drop l.k l.sent) (drop l.k l.handed)
