use Rattle.ubik_log.proofs.OneReading.{no_log_begins_another}
use Rattle.ubik_log.proofs.laws.no_log_begins_another.Goals as goal

pub returns : goal.returns
returns c = no_log_begins_another
