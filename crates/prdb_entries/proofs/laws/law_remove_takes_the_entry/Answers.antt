use Rattle.prdb_entries.proofs.Removed.{holds_removed}
use Rattle.prdb_entries.proofs.laws.law_remove_takes_the_entry.Goals as goal

pub returns : goal.returns
returns c = holds_removed
