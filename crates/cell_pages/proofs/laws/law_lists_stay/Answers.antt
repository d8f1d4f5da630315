use Rattle.cell_pages.proofs.Once.{lists_stay}
use Rattle.cell_pages.proofs.laws.law_lists_stay.Goals as goal

pub returns : goal.returns
returns c = lists_stay c.law_rules_are_safe.ensures.cell
