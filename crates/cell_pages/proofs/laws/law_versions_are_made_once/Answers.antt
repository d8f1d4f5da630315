use Rattle.cell_pages.proofs.Once.{versions_are_made_once}
use Rattle.cell_pages.proofs.laws.law_versions_are_made_once.Goals as goal

pub returns : goal.returns
returns c = versions_are_made_once c.law_rules_are_safe.ensures.cell
