-- Files at rest: what a durable call and an opening leave (own).
use Rattle.std.specs.Prelude.{◌≡◌, ℕ, ◌≤◌, List, [], Option, Some}
use Rattle.ubik_types.specs.declared.versions.Version.{Version}
use Rattle.disk_base.specs.declared.disks.Disk.{Ghosts}
use Rattle.disk_base.specs.declared.disks.FileNo.TheVariants.{Database, Log}
use Rattle.disk_base.specs.Files.{Files}
use Rattle.page_file.specs.declared.label.TheConstants.{LABEL_LEN}
use Rattle.page_file.specs.Label.{version_of_database}
use Rattle.page_file.specs.Pages.{image_of}

-- an empty log, and a database file of this version and image
pub record IsEnded (version : Version) (image : List ℕ) (fs : Files) : Type 0 where
  pub log : fs.log ≡ []
  pub label : version_of_database fs.database ≡ Some version
  pub content : image_of fs.database ≡ image

-- and an empty incoming file
pub record IsAtRest (version : Version) (image : List ℕ) (fs : Files) : Type 0 where
  pub incoming : fs.incoming ≡ []
  pub log : fs.log ≡ []
  pub label : version_of_database fs.database ≡ Some version
  pub content : image_of fs.database ≡ image

-- a disk tells its files, and they are at rest
abbrev pub RestsAs : Version → List ℕ → Option Files → Type 0
RestsAs version image files = (fs : Files) × (files ≡ Some fs) × IsAtRest version image fs

-- a disk tells its files: log and database are, and the incoming file is this one
abbrev pub EndedAs : Version → List ℕ → (incoming : List ℕ) → Option Files → Type 0
EndedAs version image incoming files = (fs : Files) × (files ≡ Some fs) × IsEnded version image fs × (fs.incoming ≡ incoming)

-- neither a log nor an incoming file has a byte
abbrev pub AreEmpty : Files → Type 0
AreEmpty fs = (fs.log ≡ []) × (fs.incoming ≡ [])

-- the log has no byte
abbrev pub HasNoLog : Files → Type 0
HasNoLog fs = fs.log ≡ []

-- the disk has room for a log of no change, and for a label
abbrev pub CanRelabel : {D : Type 0} → Ghosts D → D → Type 0
CanRelabel g disk = (16 ≤ g.room disk Log) × (LABEL_LEN ≤ g.room disk Database)
