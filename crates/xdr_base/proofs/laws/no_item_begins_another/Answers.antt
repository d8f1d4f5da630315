use Rattle.xdr_base.proofs.OneReading.{words_differ, signed_differ, truths_differ, counts_differ, opaques_differ}
use Rattle.xdr_base.proofs.laws.no_item_begins_another.Goals as goal

pub returns : goal.returns
returns c = record { numbers = words_differ; signed_numbers = signed_differ; truth_values = truths_differ; counts = counts_differ; opaques = opaques_differ }
