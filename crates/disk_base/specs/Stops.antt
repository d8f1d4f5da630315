-- When a disk stops, and what a stop leaves.
use Rattle.std.specs.Prelude.{◌≡◌, ℕ, zero, suc, ◌+◌, ◌-◌, ◌==◌, if◌then◌else◌, List, length, take, Option}
use Rattle.std.specs.Option.{option_map}
use Rattle.disk_base.specs.declared.disks.FileNo.{FileNo}
use Rattle.disk_base.specs.declared.disks.Fill.{Fill}
use Rattle.disk_base.specs.declared.disks.Fill.TheVariants.{Old, New, Byte}
use Rattle.disk_base.specs.Files.{Files, file_of, with_file, laid}
use Rattle.disk_base.specs.Pending.{FileState, Pending, after_write, after_cut}
use Rattle.disk_base.specs.Touches.{IsFilled}

-- whether a disk is to stop, after how many changing calls, and what it then leaves
pub data DiskStop : Type 0 where
  Unarmed : DiskStop
  Armed : (calls : ℕ) → (fill : Fill) → DiskStop
  Stopped : (fill : Fill) → DiskStop

abbrev pub IsStopped : DiskStop → Type 0
IsStopped Unarmed = ⊥
IsStopped (Armed _ _) = ⊥
IsStopped (Stopped _) = Unit {0}

-- the stop after one more changing call
abbrev pub after_change : DiskStop → DiskStop
after_change Unarmed = Unarmed
after_change (Armed calls fill) = if calls == 0 then Stopped fill else Armed (calls - 1) fill
after_change (Stopped fill) = Stopped fill

-- the stop after so many changing calls
abbrev pub after_changes : ℕ → DiskStop → DiskStop
after_changes zero stop = stop
after_changes (suc calls) stop = after_change (after_changes calls stop)

-- a run of calls, by the step count before and after it: the stop is that after each of its changing calls
pub record Advances (before after : ℕ) (old new : DiskStop) : Type 0 where
  pub calls : ℕ
  pub steps : after ≡ before + calls
  pub stop : new ≡ after_changes calls old

-- the disk stops in its next changing call
abbrev pub StopsNext : DiskStop → Type 0
StopsNext Unarmed = ⊥
StopsNext (Armed calls _) = calls ≡ 0
StopsNext (Stopped _) = ⊥

-- the stop once it is armed; a disk that has stopped stays so
abbrev pub armed : DiskStop → ℕ → Fill → DiskStop
armed Unarmed calls fill = Armed calls fill
armed (Armed _ _) calls fill = Armed calls fill
armed (Stopped left) calls fill = Stopped left

-- what a stop leaves; a disk that did not stop leaves what was last synced
abbrev pub fill_left : DiskStop → Fill
fill_left Unarmed = Old
fill_left (Armed _ _) = Old
fill_left (Stopped fill) = fill

-- what a stop leaves of a file
abbrev pub IsLeft : Fill → FileState → (now after : List ℕ) → Type 0
IsLeft Old state now after = after ≡ state.synced
IsLeft New state now after = after ≡ now
IsLeft (Byte byte) state now after = IsFilled byte state.touches now after

-- what a stop leaves of the three files, of which this was pending and which reads gave so
pub record IsLeftBy (fill : Fill) (p : Pending) (now after : Files) : Type 0 where
  pub database : IsLeft fill p.database now.database after.database
  pub log : IsLeft fill p.log now.log after.log
  pub incoming : IsLeft fill p.incoming now.incoming after.incoming

-- a count of the failures that no stop brought: it rose by one exactly where the call failed and the disk is not stopped after it
pub record CountsOwn (before after : ℕ) (stop : DiskStop) (failed : Type 0) : Type 0 where
  pub raised : failed → ¬ IsStopped stop → after ≡ before + 1
  pub brought : failed → IsStopped stop → after ≡ before
  pub kept : ¬ failed → after ≡ before

-- what reads give stays, and what is pending
pub record Keeps (fs fs' : Option Files) (before after : Option Pending) : Type 0 where
  pub files : fs' ≡ fs
  pub pending : after ≡ before

-- a write counts as done, and is pending
pub record IsWritten (f : FileNo) (at : ℕ) (bytes : List ℕ) (fs fs' : Option Files) (before after : Option Pending) : Type 0 where
  pub files : fs' ≡ option_map (λ files. with_file files f (laid (file_of files f) at bytes)) fs
  pub pending : after ≡ option_map (after_write f at (length bytes)) before

-- a cut counts as done, and is pending
pub record IsCut (f : FileNo) (len : ℕ) (fs fs' : Option Files) (before after : Option Pending) : Type 0 where
  pub files : fs' ≡ option_map (λ files. with_file files f (take len (file_of files f))) fs
  pub pending : after ≡ option_map (after_cut f len) before
