use Rattle.script_laws.proofs.GoingOn.{cells_go_on}
use Rattle.script_laws.proofs.laws.law_cells_go_on.Goals as goal

pub returns : goal.returns
returns c = cells_go_on c.law_packets_have_places.ensures
