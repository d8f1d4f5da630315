use Rattle.db_chains.proofs.Walked.{Walked}
use Rattle.db_chains.proofs.walks.walk.Given as goal

abbrev pub invariant-loop-word : goal.invariant-loop-word
invariant-loop-word g l = Walked g.I.ImageRead l.fn.d l.d l.links (g.S.StopAt.test l.sought) l.at l.count l.left l.place l.word

abbrev pub decreases-loop-word : goal.decreases-loop-word
decreases-loop-word g l = l.left
