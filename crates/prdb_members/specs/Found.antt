-- The block that is found of an id.
use Rattle.std.specs.Prelude.{ℕ, ℤ, ◌≡◌, ◌<◌, true, List, Option, Some, None}
use Rattle.db_blocks.specs.declared.scans.Found.{Found}
use Rattle.prdb_layout.specs.Blocks.{block_count}
use Rattle.prdb_layout.specs.Records.{block_in, has_id}
use Rattle.prdb_finds.specs.Keys.{id_chain}
use Rattle.prdb_finds.specs.Places.{id_links}
use Rattle.prdb_finds.specs.Sought.{IsRead}

-- it is that of an entry with the id, or there is none in the chain of the id
abbrev pub IsBlockOf : (id : ℤ) → List ℕ → Option Found → Type 0
IsBlockOf id image None = IsRead id_links (λ w block. has_id id block) (id_chain id) image None
IsBlockOf id image (Some f) = (f.number < block_count image) × (f.block ≡ block_in image f.number) × (has_id id f.block ≡ true)
