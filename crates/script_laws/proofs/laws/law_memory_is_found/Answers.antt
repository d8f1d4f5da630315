use Rattle.script_laws.proofs.Finding.{memory_is_found}
use Rattle.script_laws.proofs.laws.law_memory_is_found.Goals as goal

pub returns : goal.returns
returns c = memory_is_found
