use Rattle.ubik_write.proofs.BytesBefore.{byte-back}
use Rattle.ubik_write.proofs.undo.law_undo_gives_the_old_image.Goals as goal

pub returns : goal.returns
returns c = byte-back
