use Rattle.cell_model.proofs.Causes.{replies_have_causes}
use Rattle.cell_model.proofs.laws.law_replies_have_causes.Goals as goal

pub returns : goal.returns
returns c = replies_have_causes
