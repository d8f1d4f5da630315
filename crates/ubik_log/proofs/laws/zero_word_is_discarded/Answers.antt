use Rattle.ubik_log.proofs.Gates.{zero_word_is_discarded}
use Rattle.ubik_log.proofs.laws.zero_word_is_discarded.Goals as goal

pub returns : goal.returns
returns c = zero_word_is_discarded
