use Rattle.vl_service.proofs.Found.{small_text}
use Rattle.vl_service.proofs.looks.tell_entry.Goals as goal

pub tell-requires : goal.tell-requires
tell-requires c = let small = c.requires in small_text c.in-Some.entry (rw c.in-Some.is at small)
