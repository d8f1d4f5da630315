use Rattle.cell_examples.proofs.Late.{of_one_second}
use Rattle.cell_examples.proofs.runs.polls_of_one_second.Goals as goal

pub returns : goal.returns
returns c = of_one_second
