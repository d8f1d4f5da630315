use Rattle.std.proofs.Common.{[]}
use Rattle.cell_sites.specs.SweptTo.{AreSwept, AreWithin}
use Rattle.cell_sites.proofs.packets.Packets.new.Given as goal

abbrev pub invariant-loop-host : goal.invariant-loop-host
invariant-loop-host l = AreWithin 0 l.swept.items × AreSwept [] [] l.swept.items
