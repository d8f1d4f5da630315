use Rattle.std.proofs.Common.{length}
use Rattle.cell_sites.proofs.steps.drop_outputs.Given as goal

abbrev pub decreases-loop : goal.decreases-loop
decreases-loop l = length l.out
