use Rattle.cell_pages.proofs.Rising.{versions_never_fall}
use Rattle.cell_pages.proofs.laws.law_versions_never_fall.Goals as goal

pub returns : goal.returns
returns c = versions_never_fall c.law_rules_are_safe.ensures.cell
