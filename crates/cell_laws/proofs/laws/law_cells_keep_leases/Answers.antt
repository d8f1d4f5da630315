use Rattle.cell_laws.proofs.Cells.{cells_keep_leases}
use Rattle.cell_laws.proofs.laws.law_cells_keep_leases.Goals as goal

pub returns : goal.returns
returns c = cells_keep_leases c.law_rules_are_safe.ensures.cell
