use Rattle.journal_model.proofs.Few.{step_few}
use Rattle.journal_model.proofs.laws.law_steps_reply_few.Goals as goal

pub returns : goal.returns
returns c = step_few
