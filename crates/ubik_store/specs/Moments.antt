-- What a crash may leave while the changes of a committed log are made (own).
use Rattle.std.specs.List.{All}
use Rattle.std.specs.Prelude.{◌≡◌, ℕ, ◌≤◌, ◌+◌, nat_lt, if◌then◌else◌, List, [], ◌∷◌, length, take, replicate}
use Rattle.ubik_types.specs.declared.images.Change.{Change}
use Rattle.ubik_types.specs.declared.images.Change.TheVariants.{Put, Cut}
use Rattle.ubik_types.specs.declared.versions.Version.{Version}
use Rattle.ubik_types.specs.Image.{effect}
use Rattle.disk_base.specs.Files.{Files, laid}
use Rattle.page_file.specs.declared.label.TheConstants.{MAX_DATABASE_LEN}
use Rattle.page_file.specs.Label.{label}
use Rattle.page_file.specs.Pages.{image_of}
use Rattle.ubik_store.specs.Files.{IsLogged}
use Rattle.ubik_store.specs.Redo.{Redoes, IsCovered}

-- The log stands there still, and its changes make of the image what they make of the one that was kept.
pub record MayRedo (kept : Files) (changes : List Change) (c : Files) : Type 0 where
  pub log : c.log ≡ kept.log
  pub incoming : c.incoming ≡ kept.incoming
  pub redoes : Redoes changes (image_of kept.database) (image_of c.database)
  pub fits : length c.database ≤ MAX_DATABASE_LEN

-- the files with another database file
abbrev pub with_database : (List ℕ → List ℕ) → Files → Files
with_database change fs = record fs { database = change fs.database }

-- a database file that is shorter than a label has zero bytes in its place
abbrev pub with_head : List ℕ → List ℕ
with_head file = if nat_lt (length file) 64 then replicate 64 0 else file

-- that takes one changing call, or none
abbrev pub head_calls : List ℕ → ℕ
head_calls file = if nat_lt (length file) 64 then 1 else 0

-- a database file after a change of its image
abbrev pub changed_file : Change → List ℕ → List ℕ
changed_file (Put at bytes) file = laid file (64 + at) bytes
changed_file (Cut to) file = take (64 + to) file

-- and after these, one after the other
abbrev pub applied : List Change → List ℕ → List ℕ
applied [] file = file
applied (change ∷ changes) file = applied changes (changed_file change file)

-- a database file under the label of a version
abbrev pub labelled : Version → List ℕ → List ℕ
labelled v file = laid file 0 (label v)

-- the files with an empty log
abbrev pub without_log : Files → Files
without_log fs = record fs { log = [] }

-- a database file with these changes and the label of a version, whatever its head was
abbrev pub finished : List Change → Version → List ℕ → List ℕ
finished changes v file = labelled v (applied changes (with_head file))

-- the files with an empty log, and a database file with these changes and this version
abbrev pub ended : List Change → Version → Files → Files
ended changes v fs = without_log (with_database (finished changes v) fs)

-- These changes lead where those of the committed log lead, also over what a crash in the midst of them leaves.
pub record LeadsTo (fs : Files) (told : List Change) (v : Version) (changes : List Change) : Type 0 where
  pub logged : IsLogged fs told v
  pub covered : All (IsCovered told (image_of fs.database)) changes
  pub same : effect (image_of fs.database) changes ≡ effect (image_of fs.database) told
