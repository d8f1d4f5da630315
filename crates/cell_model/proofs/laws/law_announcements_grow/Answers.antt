use Rattle.cell_model.proofs.KeptRuns.{announcements_grow}
use Rattle.cell_model.proofs.laws.law_announcements_grow.Goals as goal

pub returns : goal.returns
returns c = announcements_grow
