use Rattle.cell_pages.proofs.Labels.{one_label}
use Rattle.cell_pages.proofs.laws.law_one_label.Goals as goal

pub returns : goal.returns
returns c = one_label c.law_rules_are_safe.ensures.cell
