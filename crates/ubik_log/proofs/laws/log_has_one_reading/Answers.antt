use Rattle.ubik_log.proofs.OneReading.{log_has_one_reading}
use Rattle.ubik_log.proofs.laws.log_has_one_reading.Goals as goal

pub returns : goal.returns
returns c = log_has_one_reading
