use Rattle.ubik_calls.proofs.NoneBegins.{none_begins_another}
use Rattle.ubik_calls.proofs.laws.no_frame_begins_another.Goals as goal

pub returns : goal.returns
returns c = none_begins_another
