-- What a durable call makes of the image, and how many changing calls of the disk it takes (own).
use Rattle.std.specs.Prelude.{◌+◌, ◌++◌, ℕ, List, [], length}
use Rattle.ubik_types.specs.declared.images.Change.{Change}
use Rattle.ubik_types.specs.declared.versions.Version.{Version}
use Rattle.ubik_types.specs.Image.{effect}
use Rattle.disk_base.specs.Files.{Files, three_files}
use Rattle.page_file.specs.Label.{label}
use Rattle.ubik_store.specs.Gaps.{CutsNoPut}
use Rattle.ubik_store.specs.Moments.{head_calls, ended}
use Rattle.ubik_store.specs.Redo.{len_after}

pub data Rewrite : Type 0 where
  -- changes of it, one after the other: none in a relabelling
  Changed : (changes : List Change) → Rewrite
  -- another one in its place
  Replaced : (image : List ℕ) → Rewrite

-- the image after it
abbrev pub rewritten : Rewrite → List ℕ → List ℕ
rewritten (Changed changes) image = effect image changes
rewritten (Replaced image) before = image

-- its length
abbrev pub len_rewritten : Rewrite → ℕ → ℕ
len_rewritten (Changed changes) len = len_after len changes
len_rewritten (Replaced image) len = length image

-- How many changing calls of the disk: 13 and one for each change, and one more where the database file is shorter than a label; 15 where
-- another image takes its place.
abbrev pub rewrite_calls : Rewrite → (database : List ℕ) → ℕ
rewrite_calls (Changed changes) database = 13 + length changes + head_calls database
rewrite_calls (Replaced image) database = 15

-- and at most
abbrev pub most_calls : Rewrite → ℕ
most_calls (Changed changes) = 14 + length changes
most_calls (Replaced image) = 15

-- no cut of its changes goes to before where an earlier put begins
abbrev pub KeepsPuts : Rewrite → Type 0
KeepsPuts (Changed changes) = CutsNoPut changes
KeepsPuts (Replaced image) = Unit {0}

-- it does not go through the log
abbrev pub IsUnlogged : Rewrite → Type 0
IsUnlogged (Changed changes) = ⊥
IsUnlogged (Replaced image) = Unit {0}

-- the files after it, under the label of a version
abbrev pub files_rewritten : Rewrite → Version → Files → Files
files_rewritten (Changed changes) version fs = ended changes version fs
files_rewritten (Replaced image) version fs = three_files (label version ++ image) [] []
