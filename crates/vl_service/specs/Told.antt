-- The location database that an image tells, whatever it holds.
use Rattle.std.specs.Prelude.{ℕ, ◌==◌, List, Option, Some, None, if◌then◌else◌}
use Rattle.db_blocks.specs.Blocks.{first_block}
use Rattle.vldb_entries.specs.declared.entries.VlEntry.{VlEntry}
use Rattle.vldb_entries.specs.declared.layout.TheConstants.{HEAD_LEN}
use Rattle.vldb_entries.specs.Forms.{addresses_in, block_at, blocks_in, entry_in, has_id_in, next_in}
use Rattle.vldb_entries.specs.Location.{Location}

-- the first block that is an entry's of this id
abbrev pub block_of_id : (id : ℕ) → List ℕ → ℕ
block_of_id id image = first_block HEAD_LEN (has_id_in id) image

-- an entry under its own read-write id
abbrev pub own_entry : (rw : ℕ) → VlEntry → Option VlEntry
own_entry rw e = if e.rw == rw then Some e else None

-- the entry of the first block that has the id, if that is its read-write id
abbrev pub entry_at : List ℕ → (rw : ℕ) → Option VlEntry
entry_at image rw =
    let k = block_of_id rw image in
    if k == blocks_in image then None else own_entry rw (entry_in (addresses_in image) (block_at image k))

unfoldable pub location_in : List ℕ → Location
location_in image = record { entry = entry_at image; addresses = addresses_in image; next_volume = next_in image }
