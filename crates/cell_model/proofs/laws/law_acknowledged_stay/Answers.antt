use Rattle.cell_model.proofs.KeptRuns.{acknowledged_stay}
use Rattle.cell_model.proofs.laws.law_acknowledged_stay.Goals as goal

pub returns : goal.returns
returns c = acknowledged_stay
