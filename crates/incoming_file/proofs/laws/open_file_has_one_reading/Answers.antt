use Rattle.incoming_file.proofs.Opens.{open_once}
use Rattle.incoming_file.proofs.laws.open_file_has_one_reading.Goals as goal

pub returns : goal.returns
returns c = open_once
