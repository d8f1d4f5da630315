use Rattle.pt_looks.proofs.Paged.{AreTold}
use Rattle.pt_looks.proofs.pages.entries_in.Given as goal

abbrev pub invariant-loop-block : goal.invariant-loop-block
invariant-loop-block l = AreTold l.blocks l.entries.items l.block-index
