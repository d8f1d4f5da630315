use Rattle.cell_examples.proofs.LeftOut.{is_left_out}
use Rattle.cell_examples.proofs.runs.unknown_is_left_out.Goals as goal

pub returns : goal.returns
returns c = is_left_out
