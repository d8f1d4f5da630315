use Rattle.pt_laws.proofs.GrownByTurns.{grows_by}
use Rattle.pt_laws.proofs.laws.law_images_never_shrink.Goals as goal

pub returns : goal.returns
returns c = grows_by
