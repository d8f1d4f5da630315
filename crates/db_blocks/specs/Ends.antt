-- What a call on the records of a draft leaves, and when it answers a fault.
use Rattle.std.specs.Prelude.{ℕ, ◌≡◌, List, Option, IfSome}
use Rattle.std.specs.Option.{option_map}
use Rattle.db_image.specs.Draft.{Drafted, StaysAsItWas}
use Rattle.db_image.specs.Images.{OnlyReads}
use Rattle.db_image.specs.declared.faults.RecordFault.{RecordFault}
use Rattle.db_image.specs.declared.faults.RecordFault.TheVariants.{DiskFault, BadRecord, NoMemory}
use Rattle.db_image.specs.declared.images.ImageRead.{Ghosts}

-- A bad record is answered only where the image does not fit. The cause of a failing disk is in the count of its faults, and that of
-- want of memory is free.
abbrev pub HasCause : Option (List ℕ) → (List ℕ → Type 0) → RecordFault → Type 0
HasCause held fits DiskFault = Unit {0}
HasCause held fits (BadRecord at) = IfSome held (λ image. fits image → ⊥)
HasCause held fits NoMemory = Unit {0}

-- The call only looked at a draft: its bytes stay, and the image beneath was only read.
pub record OnlyLooks {I : Type 0} (g : Ghosts I) (old new : Drafted I) (failed : Type 0) : Type 0 where
  pub same : StaysAsItWas old new
  pub reads : OnlyReads g old.image new.image failed

-- The call changed nothing beneath a draft, and the draft keeps its blocks.
pub record OnlyDrafts {I : Type 0} (g : Ghosts I) (old new : Drafted I) (failed : Type 0) : Type 0 where
  pub layout : new.layout ≡ old.layout
  pub reads : OnlyReads g old.image new.image failed

-- the bytes are what this makes of the old ones, where they are told
abbrev pub Becomes : {I : Type 0} → (List ℕ → List ℕ) → (old new : Drafted I) → Type 0
Becomes after old new = new.bytes ≡ option_map after old.bytes
