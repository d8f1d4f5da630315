-- What a call leaves of a draft that it looks at before it changes it.
use Rattle.std.proofs.Common.{◌≡◌, Result, Err}
use Rattle.db_image.specs.Draft.{Drafted}
use Rattle.db_image.specs.declared.faults.RecordFault.{RecordFault}
use Rattle.db_image.specs.declared.faults.RecordFault.TheVariants.{DiskFault, NoMemory}
use Rattle.db_image.specs.declared.images.ImageRead.{Ghosts}
use Rattle.db_blocks.specs.Ends.{OnlyDrafts, OnlyLooks}
use Rattle.db_blocks.proofs.Scanned.{drafts_after, looks_then}

pub looked : {I : Type 0} (g : Ghosts I) (a b : Drafted I) (first failed : Type 0) → OnlyLooks g a b first → (failed → first)
    → OnlyDrafts g a b failed
looked g a b first failed r so = record {
  layout = r.same.layout;
  reads =
      record {
        held = r.reads.held;
        size = r.reads.size;
        came = r.reads.came;
        never_falls = r.reads.never_falls;
        cause = λ h.
            r.reads.cause (so h);
      };
}

pub drafts_so : {I : Type 0} (g : Ghosts I) (a b : Drafted I) (first failed : Type 0) → OnlyDrafts g a b first → (failed → first)
    → OnlyDrafts g a b failed
drafts_so g a b first failed r so = record {
  layout = r.layout;
  reads =
      record {
        held = r.reads.held;
        size = r.reads.size;
        came = r.reads.came;
        never_falls = r.reads.never_falls;
        cause = λ h.
            r.reads.cause (so h);
      };
}

pub drafted : {I : Type 0} (g : Ghosts I) (a b c : Drafted I) (first second failed : Type 0) → OnlyLooks g a b first
    → OnlyDrafts g b c second → (failed → second)
    → OnlyDrafts g a c failed
drafted g a b c first second failed r s so = drafts_so g a c second failed (drafts_after g a b c first second r s) so

pub looked_twice : {I : Type 0} (g : Ghosts I) (a b c : Drafted I) (first second failed : Type 0) → OnlyLooks g a b first
    → OnlyLooks g b c second → (failed → second) → OnlyDrafts g a c failed
looked_twice g a b c first second failed r s so = looked g a c second failed (looks_then g a b c first second r s) so

pub looked_thrice : {I : Type 0} (g : Ghosts I) (a b c d : Drafted I) (first second third failed : Type 0) → OnlyLooks g a b first
    → OnlyLooks g b c second
    → OnlyLooks g c d third → (failed → third) → OnlyDrafts g a d failed
looked_thrice g a b c d first second third failed r s t so =
    looked g a d third failed (looks_then g a b d first third r (looks_then g b c d second third s t)) so

pub drafted_thrice : {I : Type 0} (g : Ghosts I) (a b c d e : Drafted I) (first second third fourth failed : Type 0)
    → OnlyLooks g a b first → OnlyLooks g b c second
    → OnlyLooks g c d third → OnlyDrafts g d e fourth → (failed → fourth) → OnlyDrafts g a e failed
drafted_thrice g a b c d e first second third fourth failed r s t u so =
    drafted g a d e third fourth failed (looks_then g a b d first third r (looks_then g b c d second third s t)) u so

-- want of memory is no fault of a disk
pub no_disk : {T : Type 0} (r : Result T RecordFault) (y : RecordFault) → r ≡ Err y → y ≡ NoMemory → r ≡ Err DiskFault → ⊥
no_disk r y made from disk = cc
