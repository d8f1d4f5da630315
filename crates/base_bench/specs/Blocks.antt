-- The blocks that a log has, and the label that an opening leaves.
use Rattle.std.specs.Prelude.{◌≡◌, ℕ, zero, suc, ◌*◌, List, [], ◌∷◌, ◌++◌, Option, Some}
use Rattle.ubik_types.specs.declared.images.Change.{Change}
use Rattle.ubik_types.specs.declared.images.Change.TheVariants.{Put}
use Rattle.ubik_types.specs.declared.versions.Version.{Version}
use Rattle.disk_base.specs.Files.{Files}
use Rattle.page_file.specs.Label.{version_of_database}
use Rattle.base_bench.specs.declared.store_commits.TheConstants.{LAID}

-- the block at a place
abbrev pub block_at : ℕ → Change
block_at place = Put (place * 192) LAID

-- so many blocks, side by side from position 0 on
unfoldable pub blocks : ℕ → List Change
blocks zero = []
blocks (suc count) = blocks count ++ block_at count ∷ []

-- a disk tells its files, and the label of their database file is that of this version
abbrev pub IsLabelled : Version → Option Files → Type 0
IsLabelled version files = (fs : Files) × (files ≡ Some fs) × (version_of_database fs.database ≡ Some version)
