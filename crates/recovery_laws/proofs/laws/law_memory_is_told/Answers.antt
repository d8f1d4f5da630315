use Rattle.recovery_laws.proofs.Memory.{memory_is_told}
use Rattle.recovery_laws.proofs.laws.law_memory_is_told.Goals as goal

pub returns : goal.returns
returns c = memory_is_told
