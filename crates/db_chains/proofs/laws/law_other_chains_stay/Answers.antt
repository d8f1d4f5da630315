use Rattle.db_chains.proofs.Others.{put_chains, taken_chains}
use Rattle.db_chains.proofs.laws.law_other_chains_stay.Goals as goal

pub returns-clause-put : goal.returns-clause-put
returns-clause-put c = put_chains

pub returns-clause-taken : goal.returns-clause-taken
returns-clause-taken c = taken_chains
