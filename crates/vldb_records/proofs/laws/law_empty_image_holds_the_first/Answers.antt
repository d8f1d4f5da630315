use Rattle.vldb_records.proofs.Empty.{empty_holds}
use Rattle.vldb_records.proofs.laws.law_empty_image_holds_the_first.Goals as goal

pub returns : goal.returns
returns c = empty_holds
