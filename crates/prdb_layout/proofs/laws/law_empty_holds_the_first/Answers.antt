use Rattle.prdb_layout.proofs.FirstImage.{empty_holds}
use Rattle.prdb_layout.proofs.laws.law_empty_holds_the_first.Goals as goal

pub returns : goal.returns
returns c = empty_holds
