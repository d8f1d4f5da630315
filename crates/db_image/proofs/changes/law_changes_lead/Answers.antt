use Rattle.db_image.proofs.Laid.{changes_lead, changes_none, some_length}
use Rattle.db_image.proofs.changes.law_changes_lead.Goals as goal

pub returns-clause-leads : goal.returns-clause-leads
returns-clause-leads c = changes_lead

pub returns-clause-none : goal.returns-clause-none
returns-clause-none c = changes_none

pub returns-clause-len : goal.returns-clause-len
returns-clause-len c = some_length
