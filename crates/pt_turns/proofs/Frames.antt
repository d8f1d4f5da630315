-- What a call leaves of a draft that it changes twice.
use Rattle.db_image.specs.Draft.{Drafted}
use Rattle.db_image.specs.declared.images.ImageRead.{Ghosts}
use Rattle.db_blocks.specs.Ends.{OnlyDrafts}
use Rattle.db_blocks.proofs.Scanned.{drafts_then}
use Rattle.pt_service.proofs.Frames.{drafts_so}

pub changed_then : {I : Type 0} (g : Ghosts I) (a b c : Drafted I) (first second failed : Type 0) → OnlyDrafts g a b first
    → OnlyDrafts g b c second → (failed → second)
    → OnlyDrafts g a c failed
changed_then g a b c first second failed r s so = drafts_so g a c second failed (drafts_then g a b c first second r s) so
