use Rattle.cell_model.proofs.SingleReplies.{sites_are_single}
use Rattle.cell_model.proofs.laws.law_sites_are_single.Goals as goal

pub returns : goal.returns
returns c = sites_are_single
