use Rattle.ubik_log.proofs.Gates.{short_log_is_discarded}
use Rattle.ubik_log.proofs.laws.short_log_is_discarded.Goals as goal

pub returns : goal.returns
returns c = short_log_is_discarded
