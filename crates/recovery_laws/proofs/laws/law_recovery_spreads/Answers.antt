use Rattle.recovery_laws.proofs.Spreading.{recovery_spreads}
use Rattle.recovery_laws.proofs.laws.law_recovery_spreads.Goals as goal

pub returns : goal.returns
returns c = recovery_spreads c.packets_are_as_long_as_said.ensures
