use Rattle.prdb_finds.proofs.Beside.{entry_beside, free_beside, head_beside}
use Rattle.prdb_finds.proofs.laws.law_words_of_chains_stand_apart.Goals as goal

pub returns-clause-head : goal.returns-clause-head
returns-clause-head c = head_beside

pub returns-clause-entry : goal.returns-clause-entry
returns-clause-entry c = entry_beside

pub returns-clause-free : goal.returns-clause-free
returns-clause-free c = free_beside
