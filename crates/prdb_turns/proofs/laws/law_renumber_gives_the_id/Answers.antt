use Rattle.prdb_turns.proofs.Steps.{renumber_law}
use Rattle.prdb_turns.proofs.laws.law_renumber_gives_the_id.Goals as goal

pub returns : goal.returns
returns c = renumber_law
