use Rattle.db_blocks.proofs.Keeping.{Reading}
use Rattle.db_blocks.proofs.keyed.read_blocks.Given as goal

abbrev pub invariant-loop-k : goal.invariant-loop-k
invariant-loop-k g l = Reading g.I.ImageRead l.initial.d l.d l.head l.kept l.blocks.items l.k-index
