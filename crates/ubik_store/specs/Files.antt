-- What the files of a server stand for (own): the version and the image that a server opened on them has.
use Rattle.std.specs.Prelude.{◌≡◌, ◌⊎◌, ℕ, ◌≤◌, Some, List, length}
use Rattle.ubik_types.specs.declared.images.Change.{Change}
use Rattle.ubik_types.specs.declared.versions.Version.{Version}
use Rattle.ubik_types.specs.Image.{effect}
use Rattle.disk_base.specs.Files.{Files}
use Rattle.page_file.specs.declared.label.TheConstants.{MAX_DATABASE_LEN}
use Rattle.page_file.specs.Label.{version_of_database}
use Rattle.page_file.specs.Pages.{image_of}
use Rattle.ubik_log.specs.LogGrammar.{IsCommitted, IsDiscarded}
use Rattle.incoming_file.specs.Incoming.{IsIncoming, IsIgnored}

-- No incoming file is open, and the log is committed: these are its changes and its version.
pub record IsLogged (fs : Files) (changes : List Change) (version : Version) : Type 0 where
  pub ignored : IsIgnored fs.incoming
  pub committed : IsCommitted fs.log changes version

-- Files whose database file is no longer than a label and the longest image, by cases.
pub data StandsFor : Files → Version → List ℕ → Type 0 where
  -- with an open incoming file: its version and its image, whatever database and log are
  by_incoming : (fs : Files) (version : Version) (image : List ℕ)
      → IsIncoming fs.incoming version image → length fs.database ≤ MAX_DATABASE_LEN
      → StandsFor fs version image
  -- without one, and with a committed log: its version, and what its changes make of the bytes behind the label
  by_log : (fs : Files) (changes : List Change) (version : Version)
      → IsLogged fs changes version → length fs.database ≤ MAX_DATABASE_LEN
      → StandsFor fs version (effect (image_of fs.database) changes)
  -- with neither: the version of the label, or the first one where the file is empty, and the bytes behind it
  by_label : (fs : Files) (version : Version)
      → IsIgnored fs.incoming → IsDiscarded fs.log → version_of_database fs.database ≡ Some version
      → StandsFor fs version (image_of fs.database)

-- the files stand for the one version and image, or for the other
abbrev pub StandsForEither : Version → List ℕ → Version → List ℕ → Files → Type 0
StandsForEither own image v changed fs = StandsFor fs own image ⊎ StandsFor fs v changed
