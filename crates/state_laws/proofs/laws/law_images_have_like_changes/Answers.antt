use Rattle.state_laws.proofs.LikeChanges.{like_changes}
use Rattle.state_laws.proofs.laws.law_images_have_like_changes.Goals as goal

pub returns : goal.returns
returns c = like_changes
