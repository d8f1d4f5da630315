use Rattle.pt_calls.proofs.WordCalls.{names_calls}
use Rattle.pt_calls.proofs.laws.words_name_calls.Goals as goal

pub returns : goal.returns
returns c = names_calls
