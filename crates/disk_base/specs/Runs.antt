-- What a call leaves of a disk that it was lent, as one fact over the whole meaning of `Disk`: it only read, it reserved
-- room, it made one changing call, or at most so many. `failed` says that the call ended by a failure of the disk.
use Rattle.std.specs.Prelude.{◌≡◌, ◌⊎◌, ℕ, ◌+◌, List, length, take, Option, IfSome, IsSome}
use Rattle.std.specs.Option.{option_map}
use Rattle.disk_base.specs.declared.disks.Disk.{Ghosts}
use Rattle.disk_base.specs.declared.disks.FileNo.{FileNo}
use Rattle.disk_base.specs.Files.{Files, file_of, with_file, laid, KeepsRoom}
use Rattle.disk_base.specs.Count.{HasCause}
use Rattle.disk_base.specs.Crash.{Torn, CutShort, InFile, Follows, Narrows, OnlyIn, Elapses, LeavesSame, LeavesOthers, LeavesOnly, After, RisesAtMost}
use Rattle.disk_base.specs.Pending.{after_write, after_cut, after_sync}
use Rattle.disk_base.specs.Stops.{IsStopped, CountsOwn, after_change, Advances, Keeps, IsWritten, IsCut}

-- the call only read the disk: of one that tells what is pending also reads give what they gave, failed or not
pub record OnlyReads {D : Type 0} (g : Ghosts D) (old new : D) (failed : Type 0) : Type 0 where
  pub files : ¬ failed → g.files new ≡ g.files old
  pub kept : IsSome (g.pending old) → g.files new ≡ g.files old
  pub room : KeepsRoom (g.room old) (g.room new)
  pub steps : g.steps new ≡ g.steps old
  pub crash : LeavesSame (g.may_leave old) (g.may_leave new) (g.left_since old) (g.left_since new)
  pub stop : g.stop new ≡ g.stop old
  pub pending : g.pending new ≡ g.pending old
  pub tells : g.tells new ≡ g.tells old
  pub cause : HasCause (g.faults old) (g.faults new) failed
  pub own : CountsOwn (g.own_faults old) (g.own_faults new) (g.stop new) failed

-- the call changed nothing, but may have made room
pub record OnlyReserves {D : Type 0} (g : Ghosts D) (old new : D) : Type 0 where
  pub files : g.files new ≡ g.files old
  pub room : KeepsRoom (g.room old) (g.room new)
  pub steps : g.steps new ≡ g.steps old
  pub crash : LeavesSame (g.may_leave old) (g.may_leave new) (g.left_since old) (g.left_since new)
  pub stop : g.stop new ≡ g.stop old
  pub pending : g.pending new ≡ g.pending old
  pub tells : g.tells new ≡ g.tells old
  pub faults : g.faults new ≡ g.faults old
  pub own : g.own_faults new ≡ g.own_faults old

-- what each changing call does, of whatever kind: it is one step, of this file
pub record OneChange {D : Type 0} (g : Ghosts D) (f : FileNo) (old new : D) (failed : Type 0) : Type 0 where
  pub room : KeepsRoom (g.room old) (g.room new)
  pub steps : g.steps new ≡ g.steps old + 1
  pub others : LeavesOthers f (g.may_leave old) (g.may_leave new)
  pub time : Elapses (g.steps old) (g.left_since old) (g.left_since new) (g.may_leave new)
  pub stop : g.stop new ≡ after_change (g.stop old)
  pub stopped : IsStopped (g.stop new) → failed
  pub tells : g.tells new ≡ g.tells old
  pub cause : HasCause (g.faults old) (g.faults new) failed
  pub own : CountsOwn (g.own_faults old) (g.own_faults new) (g.stop new) failed

-- the call made one write, of these bytes
pub record Writes {D : Type 0} (g : Ghosts D) (f : FileNo) (at : ℕ) (bytes : List ℕ) (old new : D) (failed : Type 0) : Type 0 where
  pub change : OneChange g f old new failed
  pub files : ¬ failed → g.files new ≡ option_map (λ fs. with_file fs f (laid (file_of fs f) at bytes)) (g.files old)
  pub pending : ¬ failed → g.pending new ≡ option_map (after_write f at (length bytes)) (g.pending old)
  pub crash : Follows (InFile f (Torn at (length bytes))) (g.may_leave old) (g.may_leave new)
  pub kept : IsSome (g.pending old) → failed → Keeps (g.files old) (g.files new) (g.pending old) (g.pending new)
      ⊎ IsWritten f at bytes (g.files old) (g.files new) (g.pending old) (g.pending new)

-- the call made one cut, to this length
pub record Cuts {D : Type 0} (g : Ghosts D) (f : FileNo) (len : ℕ) (old new : D) (failed : Type 0) : Type 0 where
  pub change : OneChange g f old new failed
  pub files : ¬ failed → g.files new ≡ option_map (λ fs. with_file fs f (take len (file_of fs f))) (g.files old)
  pub pending : ¬ failed → g.pending new ≡ option_map (after_cut f len) (g.pending old)
  pub crash : Follows (InFile f (CutShort len)) (g.may_leave old) (g.may_leave new)
  pub kept : IsSome (g.pending old) → failed → Keeps (g.files old) (g.files new) (g.pending old) (g.pending new)
      ⊎ IsCut f len (g.files old) (g.files new) (g.pending old) (g.pending new)

-- the call made one sync
pub record Syncs {D : Type 0} (g : Ghosts D) (f : FileNo) (old new : D) (failed : Type 0) : Type 0 where
  pub change : OneChange g f old new failed
  pub files : ¬ failed → g.files new ≡ g.files old
  pub pending : ¬ failed → IfSome (g.files old) (λ fs. g.pending new ≡ option_map (after_sync f (file_of fs f)) (g.pending old))
  pub durable : ¬ failed → IfSome (g.files old) (λ fs. OnlyIn f (file_of fs f) (g.may_leave new))
  pub crash : Narrows (g.may_leave old) (g.may_leave new)
  pub kept : IsSome (g.pending old) → failed → Keeps (g.files old) (g.files new) (g.pending old) (g.pending new)

-- any change of one file
abbrev pub AnyIn : FileNo → Files → Files → Type 0
AnyIn f before after = after ≡ with_file before f (file_of after f)

-- reads give the other files as before, where they tell the files
abbrev pub SameOthers : FileNo → Option Files → Option Files → Type 0
SameOthers f before after = (bytes : List ℕ) × (after ≡ option_map (λ fs. with_file fs f bytes) before)

-- The call made at most so many changing calls, all of this file. A disk that stopped in it made it fail.
pub record ChangesAtMost {D : Type 0} (g : Ghosts D) (f : FileNo) (most : ℕ) (old new : D) (failed : Type 0) : Type 0 where
  pub at_most : RisesAtMost most (g.steps old) (g.steps new)
  pub advances : Advances (g.steps old) (g.steps new) (g.stop old) (g.stop new)
  pub stopped : IsStopped (g.stop new) → IsStopped (g.stop old) ⊎ failed
  pub room : KeepsRoom (g.room old) (g.room new)
  pub files : ¬ failed → SameOthers f (g.files old) (g.files new)
  pub others : LeavesOthers f (g.may_leave old) (g.may_leave new)
  -- a crash at any moment of the call leaves the other files as one before it
  pub moments : LeavesOnly g.steps g.left_since old new (After (AnyIn f) (g.may_leave old))
  pub tells : g.tells new ≡ g.tells old
  pub cause : HasCause (g.faults old) (g.faults new) failed
  pub own : CountsOwn (g.own_faults old) (g.own_faults new) (g.stop new) failed
