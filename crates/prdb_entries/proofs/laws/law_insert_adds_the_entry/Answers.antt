use Rattle.prdb_entries.proofs.Inserted.{holds_inserted}
use Rattle.prdb_entries.proofs.laws.law_insert_adds_the_entry.Goals as goal

pub returns : goal.returns
returns c = holds_inserted
