use Rattle.db_chains.proofs.Others.{put_sorts, taken_sorts}
use Rattle.db_chains.proofs.laws.law_other_sorts_stay.Goals as goal

pub returns-clause-put : goal.returns-clause-put
returns-clause-put c = put_sorts

pub returns-clause-taken : goal.returns-clause-taken
returns-clause-taken c = taken_sorts
