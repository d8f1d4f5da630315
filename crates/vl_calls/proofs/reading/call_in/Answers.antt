use Rattle.std.proofs.Common.{refl}
use Rattle.vl_calls.specs.Reading.{call_at}
use Rattle.vl_calls.proofs.reading.call_in.Goals as goal

pub returns-in-GetAddrs : goal.returns-in-GetAddrs
unfolding call_at
returns-in-GetAddrs g c = rw c.in-GetAddrs.is refl

pub returns-in-Probe : goal.returns-in-Probe
unfolding call_at
returns-in-Probe g c = rw c.in-Probe.is refl
