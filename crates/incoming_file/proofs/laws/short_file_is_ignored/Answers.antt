use Rattle.incoming_file.proofs.Opens.{short_ignored}
use Rattle.incoming_file.proofs.laws.short_file_is_ignored.Goals as goal

pub returns : goal.returns
returns c = short_ignored
