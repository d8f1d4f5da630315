use Rattle.prdb_scans.proofs.Told.{pairs_told}
use Rattle.prdb_scans.proofs.laws.law_image_tells_its_pairs.Goals as goal

pub returns : goal.returns
returns c = pairs_told
