use Rattle.prdb_finds.proofs.FirstHolds.{empty_holds}
use Rattle.prdb_finds.proofs.laws.law_empty_image_holds_the_first.Goals as goal

pub returns : goal.returns
returns c = empty_holds
