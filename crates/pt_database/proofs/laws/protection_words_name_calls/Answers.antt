use Rattle.pt_database.proofs.Lawful.{names_calls}
use Rattle.pt_database.proofs.laws.protection_words_name_calls.Goals as goal

pub returns : goal.returns
returns c = names_calls
