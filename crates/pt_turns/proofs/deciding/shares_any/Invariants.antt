use Rattle.pt_turns.proofs.Shared.{Sharing}
use Rattle.pt_turns.proofs.deciding.shares_any.Given as goal

abbrev pub invariant-loop-g : goal.invariant-loop-g
invariant-loop-g g l = Sharing g.I.ImageRead l.fn.d l.d l.new l.groups l.g-index
