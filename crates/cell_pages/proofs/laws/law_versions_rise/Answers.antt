use Rattle.cell_pages.proofs.Once.{versions_rise}
use Rattle.cell_pages.proofs.laws.law_versions_rise.Goals as goal

pub returns : goal.returns
returns c = versions_rise c.law_rules_are_safe.ensures.cell
