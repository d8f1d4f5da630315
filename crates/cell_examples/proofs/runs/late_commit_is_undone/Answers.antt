use Rattle.cell_examples.proofs.Late.{is_undone}
use Rattle.cell_examples.proofs.runs.late_commit_is_undone.Goals as goal

pub returns : goal.returns
returns c = is_undone
