use Rattle.cell_pages.proofs.Labels.{lists_go_on}
use Rattle.cell_pages.proofs.laws.law_lists_go_on.Goals as goal

pub returns : goal.returns
returns c = lists_go_on c.law_rules_are_safe.ensures.cell
