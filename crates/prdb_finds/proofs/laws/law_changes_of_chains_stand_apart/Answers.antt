use Rattle.prdb_finds.proofs.Beside.{put_beside, taken_beside}
use Rattle.prdb_finds.proofs.laws.law_changes_of_chains_stand_apart.Goals as goal

pub returns-clause-put : goal.returns-clause-put
returns-clause-put c = put_beside

pub returns-clause-taken : goal.returns-clause-taken
returns-clause-taken c = taken_beside
