use Rattle.db_chains.proofs.Framed.{named_stays}
use Rattle.db_chains.proofs.laws.law_chain_stays_with_its_blocks.Goals as goal

pub returns : goal.returns
returns c = named_stays
