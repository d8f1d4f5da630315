use Rattle.ubik_write.proofs.BeforeImages.{before-is-old}
use Rattle.ubik_write.proofs.before_images.law_before_image_holds_the_old_bytes.Goals as goal

pub returns : goal.returns
returns c = before-is-old
