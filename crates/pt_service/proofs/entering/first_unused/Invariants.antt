use Rattle.pt_service.proofs.Unused.{Passed}
use Rattle.pt_service.proofs.entering.first_unused.Given as goal

abbrev pub invariant-loop-n : goal.invariant-loop-n
invariant-loop-n g l = Passed g.I.ImageRead l.fn.d l.d l.fn.group l.fn.passed l.n
