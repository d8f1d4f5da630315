use Rattle.cell_pages.proofs.Once.{leaders_are_ahead}
use Rattle.cell_pages.proofs.laws.law_leaders_are_ahead.Goals as goal

pub returns : goal.returns
returns c = leaders_are_ahead c.law_rules_are_safe.ensures.cell
