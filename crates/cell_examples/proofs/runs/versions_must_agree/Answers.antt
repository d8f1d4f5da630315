use Rattle.cell_examples.proofs.Changed.{must_agree}
use Rattle.cell_examples.proofs.runs.versions_must_agree.Goals as goal

pub returns : goal.returns
returns c = must_agree
