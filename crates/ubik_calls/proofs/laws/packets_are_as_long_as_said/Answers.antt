use Rattle.ubik_calls.proofs.PacketLength.{packets_are_so_long}
use Rattle.ubik_calls.proofs.laws.packets_are_as_long_as_said.Goals as goal

pub returns : goal.returns
returns c = packets_are_so_long
