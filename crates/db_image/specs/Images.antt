-- What a call leaves of an image that it reads. `failed` says that the call ended by a failure of what holds the image.
use Rattle.std.specs.Prelude.{ℕ, ◌<◌, ◌≤◌, ◌≡◌}
use Rattle.db_image.specs.declared.images.ImageRead.{Ghosts}
use Rattle.db_image.specs.declared.faults.RecordFault.{RecordFault}
use Rattle.db_image.specs.declared.faults.RecordFault.TheVariants.{DiskFault, BadRecord, NoMemory}
use Rattle.db_image.specs.Asked.{AsksAtMost}

-- the call only read the image
pub record OnlyReads {I : Type 0} (g : Ghosts I) (old new : I) (failed : Type 0) : Type 0 where
  pub held : g.held new ≡ g.held old
  pub size : g.size new ≡ g.size old
  pub came : g.came old new
  pub never_falls : g.faults old ≤ g.faults new
  pub cause : failed → g.faults old < g.faults new

-- the call only read the image, and asked for so many bytes at most
pub record ReadsAtMost {I : Type 0} (g : Ghosts I) (most : ℕ) (old new : I) (failed : Type 0) : Type 0 where
  pub reads : OnlyReads g old new failed
  pub asked : AsksAtMost most (g.asked old) (g.asked new)

-- a fault is of what holds the image, or want of memory
abbrev pub IsOfImage : RecordFault → Type 0
IsOfImage DiskFault = Unit {0}
IsOfImage (BadRecord at) = ⊥
IsOfImage NoMemory = Unit {0}
