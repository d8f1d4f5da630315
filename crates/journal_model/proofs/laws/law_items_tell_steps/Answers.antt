use Rattle.journal_model.proofs.Replaying.{items_tell_steps}
use Rattle.journal_model.proofs.laws.law_items_tell_steps.Goals as goal

pub returns : goal.returns
returns c = items_tell_steps
