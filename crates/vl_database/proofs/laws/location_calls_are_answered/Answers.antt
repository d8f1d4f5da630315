use Rattle.vl_database.proofs.Lawful.{answers_calls}
use Rattle.vl_database.proofs.laws.location_calls_are_answered.Goals as goal

pub returns : goal.returns
returns c = answers_calls
