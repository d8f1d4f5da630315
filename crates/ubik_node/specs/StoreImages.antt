-- The image of a store that is lent: what it keeps, and what its reads leave of the store.
use Rattle.std.specs.Prelude.{◌≡◌, ◌↔◌, ◌<◌, Bool, true, if◌then◌else◌, None, ℕ, List, Option, IfSome, length, refl}
use Rattle.std.specs.Borrow.{MutBor}
use Rattle.disk_base.specs.declared.disks.Disk.{Ghosts}
use Rattle.disk_base.specs.Files.{Files}
use Rattle.disk_base.specs.Runs.{OnlyReads}
use Rattle.ubik_store.specs.declared.stores.Store.{Store}
use Rattle.ubik_store.specs.Store.{IsSound, changes_begun, image_in}

-- what contracts see of it: the store, and how many reads have failed
pub record Lent (D : Type 0) : Type 0 where
  pub store : MutBor (Store D)
  pub faults : ℕ

-- the image in files, of a disk that tells them
abbrev pub told_image : Bool → Option Files → Option (List ℕ)
told_image tells files = if tells then image_in files else None

-- the store is one, it has failed where a read has, and an image that is told has its length
pub record IsImage {D : Type 0} (g : Ghosts D) (i : Lent D) : Type 0 where
  pub sound : IsSound g i.store.now
  pub failed : i.store.now.failed ≡ true ↔ 0 < i.faults
  pub len : IfSome (told_image (g.tells i.store.now.disk) (g.files i.store.now.disk)) (λ bytes. length bytes ≡ i.store.now.len)

-- An image that came from a store by reads alone: version, length and changes begun stay, and the disk was only read. The disk made a read
-- fail where one has failed.
pub record IsReadFrom {D : Type 0} (g : Ghosts D) (s : Store D) (i : Lent D) : Type 0 where
  pub version : i.store.now.version ≡ s.version
  pub len : i.store.now.len ≡ s.len
  pub begun : changes_begun i.store.now.begun ≡ changes_begun s.begun
  pub reads : OnlyReads g s.disk i.store.now.disk (i.store.now.failed ≡ true)

-- one image came from another by reads alone: it is of the same store, and came from each from which that one came
pub record ComesByReads {D : Type 0} (g : Ghosts D) (old new : Lent D) : Type 0 where
  pub name : new.store.ghost_name ≡ old.store.ghost_name
  pub reads : (s : Store D) → IsReadFrom g s old → IsReadFrom g s new

pub comes_itself : {D : Type 0} (g : Ghosts D) (i : Lent D) → ComesByReads g i i
comes_itself g i = record { name = refl; reads = λ s is. is }

pub comes_then : {D : Type 0} (g : Ghosts D) (a b c : Lent D) → ComesByReads g a b → ComesByReads g b c → ComesByReads g a c
comes_then g a b c first second = record { name = cc (second.name, first.name); reads = λ s is. second.reads s (first.reads s is) }
