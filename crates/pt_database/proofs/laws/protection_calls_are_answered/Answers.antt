use Rattle.pt_database.proofs.Lawful.{answers_calls}
use Rattle.pt_database.proofs.laws.protection_calls_are_answered.Goals as goal

pub returns : goal.returns
returns c = answers_calls
