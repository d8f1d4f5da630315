use Rattle.cell_places.proofs.Placing.{packets_have_places}
use Rattle.cell_places.proofs.laws.law_packets_have_places.Goals as goal

pub returns : goal.returns
returns c = packets_have_places
