use Rattle.cell_examples.proofs.Changed.{is_too_few}
use Rattle.cell_examples.proofs.runs.half_is_too_few.Goals as goal

pub returns : goal.returns
returns c = is_too_few
