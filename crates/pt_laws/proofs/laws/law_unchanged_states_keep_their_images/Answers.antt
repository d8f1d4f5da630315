use Rattle.pt_laws.proofs.Stays.{image_stays}
use Rattle.pt_laws.proofs.laws.law_unchanged_states_keep_their_images.Goals as goal

pub returns : goal.returns
returns c = image_stays
