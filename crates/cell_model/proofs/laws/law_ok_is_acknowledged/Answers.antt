use Rattle.cell_model.proofs.Recorded.{oks_are_acknowledged}
use Rattle.cell_model.proofs.laws.law_ok_is_acknowledged.Goals as goal

pub returns : goal.returns
returns c = oks_are_acknowledged
