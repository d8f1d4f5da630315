use Rattle.db_chains.proofs.Listed.{Listed}
use Rattle.db_chains.proofs.lists.read_along.Given as goal

abbrev pub invariant-loop-word : goal.invariant-loop-word
invariant-loop-word g l = Listed g.I.ImageRead l.fn.d l.d l.links l.at l.count l.left l.place l.word l.offset l.found.items

abbrev pub decreases-loop-word : goal.decreases-loop-word
decreases-loop-word g l = l.left
