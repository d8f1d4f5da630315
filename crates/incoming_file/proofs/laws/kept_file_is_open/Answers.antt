use Rattle.incoming_file.proofs.Keeping.{kept_is_open}
use Rattle.incoming_file.proofs.laws.kept_file_is_open.Goals as goal

pub returns : goal.returns
returns c = kept_is_open
