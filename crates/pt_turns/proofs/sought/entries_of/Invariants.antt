use Rattle.pt_turns.proofs.Looked.{Gathered}
use Rattle.pt_turns.proofs.sought.entries_of.Given as goal

abbrev pub invariant-loop-id : goal.invariant-loop-id
invariant-loop-id g l = Gathered g.I.ImageRead l.fn.d l.d l.ids l.entries.items l.id-index
