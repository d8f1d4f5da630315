-- What pages know of a database file, and when that is so.
use Rattle.std.specs.Prelude.{◌≡◌, ◌≤◌, ℕ, max, List, Option, IfSome, length, take, drop}
use Rattle.std.specs.List.{All}
use Rattle.ubik_types.specs.declared.versions.Version.{Version}
use Rattle.disk_base.specs.Files.{Files}
use Rattle.page_file.specs.declared.label.TheConstants.{LABEL_LEN}
use Rattle.page_file.specs.Kept.{Cached, IsPageIn}
use Rattle.page_file.specs.Label.{version_of_label}

pub record Known : Type 0 where
  -- none where no label was read, and none was set since
  pub version : Option Version
  -- the length of the image, in bytes
  pub len : ℕ
  pub cache : Cached

-- the bytes behind the label; a position in it is less by its length than in the file
abbrev pub image_of : List ℕ → List ℕ
image_of file = drop LABEL_LEN file

-- a version is that of a file's label, where it has one
abbrev pub LabelledAs : List ℕ → Version → Type 0
LabelledAs file version = IfSome (version_of_label (take LABEL_LEN file)) (λ read. read ≡ version)

-- The length is that of the image, the version that of the label, and the pages that are kept are the image's.
pub record Agrees (pages : Known) (file : List ℕ) : Type 0 where
  pub len : pages.len ≡ length (image_of file)
  pub version : IfSome pages.version (LabelledAs file)
  pub kept : All (IsPageIn (image_of file)) pages.cache.pages

-- pages agree with the database file of a disk, where it tells its files
abbrev pub AgreesIn : Known → Option Files → Type 0
AgreesIn pages files = IfSome files (λ fs. Agrees pages fs.database)

-- version and length stay
pub record SameButCache (old new : Known) : Type 0 where
  pub version : new.version ≡ old.version
  pub len : new.len ≡ old.len

-- a file is no longer than it was, or no longer than this
abbrev pub IsNoLonger : ℕ → List ℕ → List ℕ → Type 0
IsNoLonger most before after = length after ≤ max (length before) most
