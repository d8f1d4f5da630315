use Rattle.prdb_scans.proofs.Told.{counted}
use Rattle.prdb_scans.proofs.laws.law_blocks_tell_counts.Goals as goal

pub returns : goal.returns
returns c = counted
