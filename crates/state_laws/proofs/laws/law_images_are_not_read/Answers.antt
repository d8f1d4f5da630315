use Rattle.state_laws.proofs.Over.{lapsed_over, settled_over}
use Rattle.state_laws.proofs.laws.law_images_are_not_read.Goals as goal

pub returns : goal.returns
returns c = record { lapse = lapsed_over; holders = settled_over }
