use Rattle.cell_laws.proofs.Cells.{epochs_rise}
use Rattle.cell_laws.proofs.laws.law_epochs_rise.Goals as goal

pub returns : goal.returns
returns c = epochs_rise c.law_rules_are_safe.ensures.cell
