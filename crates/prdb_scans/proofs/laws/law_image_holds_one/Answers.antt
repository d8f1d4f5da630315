use Rattle.prdb_scans.proofs.Told.{holds_one}
use Rattle.prdb_scans.proofs.laws.law_image_holds_one.Goals as goal

pub returns : goal.returns
returns c = holds_one
