use Rattle.prdb_entries.proofs.Empty.{unchanged}
use Rattle.prdb_entries.proofs.laws.law_replace_by_the_same_changes_nothing.Goals as goal

pub returns : goal.returns
returns c = unchanged
