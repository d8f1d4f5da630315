use Rattle.cell_examples.proofs.Ordered.{is_ordered}
use Rattle.cell_examples.proofs.runs.unknown_is_ordered.Goals as goal

pub returns : goal.returns
returns c = is_ordered
