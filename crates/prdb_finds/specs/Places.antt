-- How the words of the chains stand in the blocks, and where those of a key begin (own). A word is the number of a block.
use Rattle.std.specs.Prelude.{ℕ, ◌≡◌, ◌+◌, ◌*◌, ◌<◌, ◌≤◌, ◌⊎◌, List}
use Rattle.db_blocks.specs.Blocks.{kind_of}
use Rattle.db_chains.specs.declared.free_blocks.FreeBlocks.{FreeBlocks}
use Rattle.db_chains.specs.declared.links.Links.{Links}
use Rattle.prdb_layout.specs.Blocks.{block_count}
use Rattle.prdb_layout.specs.Records.{block_in, block_place}

-- chains of entries, whose next words stand at an offset of their blocks
abbrev pub entry_links : (next : ℕ) → Links
entry_links next = record { head = 2112; mark = 1; next = next; step = 1; kinds = 1 }

-- the entries whose names have a key
abbrev pub name_links : Links
name_links = entry_links 96

-- those whose ids have one
abbrev pub id_links : Links
id_links = entry_links 100

-- the groups that an entry owns
abbrev pub owned_links : Links
owned_links = entry_links 104

abbrev pub free_blocks : FreeBlocks
free_blocks = record { head = 2112; first = 20; count = 16; mark = 0; next = 4 }

-- where the chains of a key begin in the head
abbrev pub name_place : (key : ℕ) → ℕ
name_place key = 64 + 4 * key

abbrev pub id_place : (key : ℕ) → ℕ
id_place key = 1088 + 4 * key

-- and that of what an entry owns in its own block, of which this is the place
abbrev pub owned_place : (k : ℕ) → ℕ
owned_place k = block_place k + 108

-- a place is one of the four words of chains in an entry's block
pub record IsInEntry (image : List ℕ) (at k : ℕ) : Type 0 where
  pub offset : ℕ
  pub place : at ≡ block_place k + offset
  pub below : k < block_count image
  pub kind : kind_of (block_in image k) ≡ 1
  pub from : 96 ≤ offset
  pub to : offset + 4 ≤ 112

-- where a word of a chain of entries may stand: in the head, or in an entry's block
abbrev pub IsEntryPlace : List ℕ → (at : ℕ) → Type 0
IsEntryPlace image at = ((64 ≤ at) × (at + 4 ≤ 2112)) ⊎ ((k : ℕ) × IsInEntry image at k)
