use Rattle.prdb_entries.proofs.Longer.{longer_insert, longer_remove, longer_replace}
use Rattle.prdb_entries.proofs.laws.law_no_image_gets_shorter.Goals as goal

pub returns : goal.returns
returns c = record { insert = longer_insert; replace = longer_replace; remove = longer_remove }
