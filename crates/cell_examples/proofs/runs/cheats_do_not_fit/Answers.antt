use Rattle.cell_examples.proofs.Running.{cheats_do_not_fit}
use Rattle.cell_examples.proofs.runs.cheats_do_not_fit.Goals as goal

pub returns : goal.returns
returns c = cheats_do_not_fit
