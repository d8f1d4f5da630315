-- What the opening of a mirror leaves of the disk beneath, and what it shows of a file that is too long.
use Rattle.std.specs.Prelude.{◌≡◌, ◌<◌, ℕ, List, length, slice_index}
use Rattle.disk_base.specs.declared.disks.Disk.{Ghosts}
use Rattle.disk_base.specs.declared.mirrored_disks.MirrorFault.{MirrorFault}
use Rattle.disk_base.specs.declared.mirrored_disks.MirrorFault.TheVariants.{DiskFault, TooLong, NoMemory}
use Rattle.disk_base.specs.declared.mirrored_disks.MostBytes.{MostBytes}
use Rattle.disk_base.specs.Count.{HasCause}
use Rattle.disk_base.specs.Crash.{LeavesOnly, Narrows, RisesAtMost}
use Rattle.disk_base.specs.Files.{Files, file_of, KeepsRoom}
use Rattle.disk_base.specs.Mirror.{most_of}
use Rattle.disk_base.specs.Stops.{IsStopped}

-- Files were read, and synced by at most so many calls, and changed in no way: a crash at any moment of it leaves what one could
-- leave before. `failed` says that a call of the disk failed.
pub record Takes {D : Type 0} (g : Ghosts D) (most : ℕ) (old new : D) (failed : Type 0) : Type 0 where
  pub files : ¬ failed → g.files new ≡ g.files old
  pub at_most : RisesAtMost most (g.steps old) (g.steps new)
  pub moments : LeavesOnly g.steps g.left_since old new (g.may_leave old)
  pub narrows : Narrows (g.may_leave old) (g.may_leave new)
  pub room : KeepsRoom (g.room old) (g.room new)
  pub cause : HasCause (g.faults old) (g.faults new) failed
  pub own : HasCause (g.own_faults old) (g.own_faults new) (failed × ¬ IsStopped (g.stop new))

-- the first 64 bytes of a file, and zero bytes where it is shorter
pub record IsHeadOf (head file : List ℕ) : Type 0 where
  pub len : length head ≡ 64
  pub bytes : (k : ℕ) → k < 64 → slice_index head k ≡ slice_index file k

-- of these files, one is longer than it may be, and its length and its head are told
abbrev pub IsShown : MostBytes → MirrorFault → Files → Type 0
IsShown most DiskFault files = Unit {0}
IsShown most (TooLong f len head) files = (most_of most f < len) × (len ≡ length (file_of files f)) × IsHeadOf head (file_of files f)
IsShown most NoMemory files = Unit {0}
