use Rattle.journal_model.proofs.Replaying.{steps_keep_journals}
use Rattle.journal_model.proofs.laws.law_steps_keep_journals.Goals as goal

pub returns : goal.returns
returns g c = steps_keep_journals g.S.DraftService.standing
