use Rattle.prdb_entries.proofs.Empty.{holds_after}
use Rattle.prdb_entries.proofs.laws.law_replace_gives_the_fields.Goals as goal

pub returns : goal.returns
returns c = holds_after
