use Rattle.prdb_lists.proofs.ListRead.{ReadSoFar}
use Rattle.prdb_lists.proofs.listed.read_list.Given as goal

abbrev pub invariant-loop-left : goal.invariant-loop-left
invariant-loop-left g l = ReadSoFar g.I.ImageRead l.initial.d l.d l.entry l.found.block l.ids l.more.items l.count l.left l.link

abbrev pub decreases-loop-left : goal.decreases-loop-left
decreases-loop-left g l = l.left
