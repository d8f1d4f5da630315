use Rattle.vl_database.proofs.Lawful.{names_calls}
use Rattle.vl_database.proofs.laws.location_words_name_calls.Goals as goal

pub returns : goal.returns
returns c = names_calls
