use Rattle.journal_model.proofs.Asking.{numbered_ask_once}
use Rattle.journal_model.proofs.laws.law_numbered_ask_once.Goals as goal

pub returns : goal.returns
returns c = numbered_ask_once
