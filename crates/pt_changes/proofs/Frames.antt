-- What a call leaves of a draft that it looks at twice before it changes it.
use Rattle.db_image.specs.Draft.{Drafted}
use Rattle.db_image.specs.declared.images.ImageRead.{Ghosts}
use Rattle.db_blocks.specs.Ends.{OnlyDrafts, OnlyLooks}
use Rattle.db_blocks.proofs.Scanned.{drafts_after, looks_then, drafts_then}
use Rattle.pt_service.proofs.Frames.{drafted, drafts_so, looked}

pub looked_two : {I : Type 0} (g : Ghosts I) (a b c : Drafted I) (first second failed : Type 0) → OnlyLooks g a b first
    → OnlyLooks g b c second → (failed → second)
    → OnlyDrafts g a c failed
looked_two g a b c first second failed r s so = looked g a c second failed (looks_then g a b c first second r s) so

pub drafted_two : {I : Type 0} (g : Ghosts I) (a b c d : Drafted I) (first second third failed : Type 0) → OnlyLooks g a b first
    → OnlyLooks g b c second
    → OnlyDrafts g c d third → (failed → third) → OnlyDrafts g a d failed
drafted_two g a b c d first second third failed r s t so =
    drafted g a c d second third failed (looks_then g a b c first second r s) t so

-- a look, and two or three changes
pub changed_twice : {I : Type 0} (g : Ghosts I) (a b c d : Drafted I) (first second third failed : Type 0) → OnlyLooks g a b first
    → OnlyDrafts g b c second → OnlyDrafts g c d third → (failed → third) → OnlyDrafts g a d failed
changed_twice g a b c d first second third failed r s t so =
    drafts_so g a d third failed (drafts_then g a c d second third (drafts_after g a b c first second r s) t) so

pub changed_thrice : {I : Type 0} (g : Ghosts I) (a b c d e : Drafted I) (first second third fourth failed : Type 0)
    → OnlyLooks g a b first → OnlyDrafts g b c second → OnlyDrafts g c d third → OnlyDrafts g d e fourth → (failed → fourth)
    → OnlyDrafts g a e failed
changed_thrice g a b c d e first second third fourth failed r s t u so =
    drafts_so g a e fourth failed
    (drafts_then g a d e third fourth (changed_twice g a b c d first second third third r s t (λ h. h)) u) so
