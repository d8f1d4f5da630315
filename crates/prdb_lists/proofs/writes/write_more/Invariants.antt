use Rattle.std.proofs.Common.{length}
use Rattle.prdb_lists.proofs.Written.{Writing}
use Rattle.prdb_lists.proofs.writes.write_more.Given as goal

abbrev pub decreases-loop-blocks : goal.decreases-loop-blocks
decreases-loop-blocks g l = length l.blocks

abbrev pub invariant-loop-blocks : goal.invariant-loop-blocks
invariant-loop-blocks g l = Writing g.I.ImageRead l.initial.d l.d l.entry l.more l.blocks l.ids l.left
