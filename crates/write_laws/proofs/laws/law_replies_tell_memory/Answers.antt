use Rattle.write_laws.proofs.Memory.{replies_tell_memory}
use Rattle.write_laws.proofs.laws.law_replies_tell_memory.Goals as goal

pub returns : goal.returns
returns c = replies_tell_memory
