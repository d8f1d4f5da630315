use Rattle.db_chains.proofs.Kept.{chain_taken}
use Rattle.db_chains.proofs.laws.law_chains_stay_where_a_block_is_taken.Goals as goal

pub returns : goal.returns
returns c = chain_taken
