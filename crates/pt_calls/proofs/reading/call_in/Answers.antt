use Rattle.std.proofs.Common.{refl}
use Rattle.pt_calls.specs.Reading.{call_at}
use Rattle.pt_calls.proofs.reading.call_in.Goals as goal

pub returns-in-ListMax : goal.returns-in-ListMax
unfolding call_at
returns-in-ListMax g c = rw c.in-ListMax.is refl
