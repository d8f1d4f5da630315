-- A run of calls of a disk, whichever files they change: how many, and why one failed.
use Rattle.std.specs.Prelude.{◌≡◌, ◌⊎◌, ℕ}
use Rattle.disk_base.specs.declared.disks.Disk.{Ghosts}
use Rattle.disk_base.specs.Files.{KeepsRoom}
use Rattle.disk_base.specs.Count.{HasCause}
use Rattle.disk_base.specs.Crash.{RisesAtMost}
use Rattle.disk_base.specs.Stops.{IsStopped, Advances, CountsOwn}

-- At most so many changing calls. A disk that stopped in it made it fail.
pub record CallsAtMost {D : Type 0} (g : Ghosts D) (most : ℕ) (old new : D) (failed : Type 0) : Type 0 where
  pub at_most : RisesAtMost most (g.steps old) (g.steps new)
  pub advances : Advances (g.steps old) (g.steps new) (g.stop old) (g.stop new)
  pub stopped : IsStopped (g.stop new) → IsStopped (g.stop old) ⊎ failed
  pub room : KeepsRoom (g.room old) (g.room new)
  pub tells : g.tells new ≡ g.tells old
  pub cause : HasCause (g.faults old) (g.faults new) failed
  -- a body cannot arm a stop to have a fault to tell
  pub own : CountsOwn (g.own_faults old) (g.own_faults new) (g.stop new) failed
