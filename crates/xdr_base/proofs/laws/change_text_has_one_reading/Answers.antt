use Rattle.xdr_base.proofs.OneReading.{text_has_one_reading, changes_differ}
use Rattle.xdr_base.proofs.laws.change_text_has_one_reading.Goals as goal

pub returns : goal.returns
returns c = record { whole_texts = text_has_one_reading; each_change = changes_differ }
