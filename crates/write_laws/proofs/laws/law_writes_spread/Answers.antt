use Rattle.write_laws.proofs.Spreading.{writes_spread}
use Rattle.write_laws.proofs.laws.law_writes_spread.Goals as goal

pub returns : goal.returns
returns c = writes_spread c.packets_are_as_long_as_said.ensures
