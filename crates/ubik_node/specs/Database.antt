-- The database file of a server: among the files of its disk, and what it stands for.
use Rattle.std.specs.Prelude.{ℕ, ◌==◌, if◌then◌else◌, Option, Some, None, List, length, take, drop}
use Rattle.ubik_types.specs.declared.versions.Version.{Version}
use Rattle.page_file.specs.Label.{version_by}
use Rattle.cell_model.specs.Durable.{Durable, no_database}

abbrev pub durable_with : List ℕ → Option Version → Option Durable
durable_with image None = None
durable_with image (Some v) = Some (record { version = v; image = image })

-- what a database file stands for: an empty one for no database, else its label and the rest of the file
unfoldable pub durable_of : List ℕ → Option Durable
durable_of file =
    if length file == 0 then Some no_database
    else durable_with (drop 64 file) (version_by (length file) (take 64 file))
