use Rattle.prdb_turns.proofs.Longer.{longer_renumber}
use Rattle.prdb_turns.proofs.laws.law_renumber_leaves_no_shorter_image.Goals as goal

pub returns : goal.returns
returns c = longer_renumber
