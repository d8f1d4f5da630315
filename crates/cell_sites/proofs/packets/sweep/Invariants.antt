use Rattle.std.proofs.Common.{◌≡◌, ◌++◌, map, take, drop}
use Rattle.cell_sites.specs.SweptTo.{swept_to}
use Rattle.cell_sites.proofs.packets.sweep.Given as goal

abbrev pub invariant-loop-one : goal.invariant-loop-one
invariant-loop-one l =
    map (swept_to l.host l.end) l.fn.swept ≡ take l.one-index l.swept ++ map (swept_to l.host l.end) (drop l.one-index l.swept)
