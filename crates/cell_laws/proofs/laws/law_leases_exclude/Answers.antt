use Rattle.cell_laws.proofs.Cells.{leases_exclude}
use Rattle.cell_laws.proofs.laws.law_leases_exclude.Goals as goal

pub returns : goal.returns
returns c = leases_exclude c.law_rules_are_safe.ensures.cell
