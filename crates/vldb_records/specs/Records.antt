-- How an image holds the location database with its chains (layout of format 1).
use Rattle.std.specs.Prelude.{ℕ, ◌≡◌, ◌≢◌, ◌+◌, ◌-◌, ◌*◌, ◌/◌, ◌%◌, ◌<◌, ◌≤◌, ◌⊎◌, ◌==◌, List, take, Some, if◌then◌else◌}
use Rattle.std.specs.List.{Contains}
use Rattle.db_blocks.specs.Blocks.{IsWhole, word_at, blanked}
use Rattle.db_blocks.specs.Bytes.{zeros}
use Rattle.db_blocks.specs.declared.blocks.TheConstants.{BLOCK_LEN}
use Rattle.db_chains.specs.Chains.{HasChain}
use Rattle.db_chains.specs.Free.{IsAscending, free_links}
use Rattle.db_chains.specs.Visits.{Visits}
use Rattle.db_chains.specs.Keys.{name_key}
use Rattle.vldb_chains.specs.Keys.{id_key}
use Rattle.vldb_chains.specs.Places.{free_blocks, id_links, name_links}
use Rattle.vldb_entries.specs.declared.entries.VlEntry.{VlEntry}
use Rattle.vldb_entries.specs.Location.{IsLocation, Location}
use Rattle.vldb_entries.specs.Forms.{block_at, block_of, blocks_in, head_of, whole}
use Rattle.vldb_entries.specs.declared.layout.TheConstants.{HEAD_LEN}

-- ---- without the words of chains

-- an entry's block without its four next words, by the name and by the three ids
unfoldable pub unlinked : List ℕ → List ℕ
unlinked block = blanked 36 16 block

-- the head without the first free block, and without the first words of the chains
unfoldable pub unlinked_head : List ℕ → List ℕ
unlinked_head head = blanked 1084 2048 (blanked 16 4 head)

-- a free block is zero but for the next free one
unfoldable pub unlinked_free : List ℕ → List ℕ
unlinked_free block = blanked 4 4 block

abbrev pub IsFree : List ℕ → Type 0
IsFree block = unlinked_free block ≡ zeros BLOCK_LEN

-- the block of an entry of the database
abbrev pub IsBlockOf : Location → VlEntry → List ℕ → Type 0
IsBlockOf s e block = (s.entry e.rw ≡ Some e) × (unlinked block ≡ block_of s.addresses e)

-- ---- chains

-- the block of a number, the first being 1, is an entry's
pub record IsNumberOf (s : Location) (image : List ℕ) (n : ℕ) (e : VlEntry) : Type 0 where
  pub some : 0 < n
  pub within : n ≤ blocks_in image
  pub block : IsBlockOf s e (block_at image (n - 1))

-- where the chains of a key begin
abbrev pub name_place : (key : ℕ) → ℕ
name_place key = 1084 + 4 * key

abbrev pub id_place : (key : ℕ) → ℕ
id_place key = 2108 + 4 * key

-- the id of a kind: 0 read-write, 1 read-only, 2 backup
abbrev pub id_of : (kind : ℕ) → VlEntry → ℕ
id_of kind e = if kind == 0 then e.rw else if kind == 1 then e.ro else e.backup

-- an entry whose name has the key
pub record IsNameWord (s : Location) (image : List ℕ) (key w : ℕ) : Type 0 where
  pub entry : VlEntry
  pub number : IsNumberOf s image w entry
  pub keyed : name_key entry.name ≡ key

-- an entry and a kind of id that it has, with the key
pub record IsIdWord (s : Location) (image : List ℕ) (key w : ℕ) : Type 0 where
  pub entry : VlEntry
  pub number : IsNumberOf s image (w / 4) entry
  pub kind : w % 4 < 3
  pub some : id_of (w % 4) entry ≢ 0
  pub keyed : id_key (id_of (w % 4) entry) ≡ key

-- the free blocks stand in their chain in ascending order
pub record HasFree (image : List ℕ) : Type 0 where
  pub words : List ℕ
  pub chain : HasChain (free_links free_blocks) image 16 words
  pub ascending : IsAscending words
  pub each : (k : ℕ) → k < blocks_in image → IsFree (block_at image k) → Contains words (k + 1)

-- ---- an image

-- An image that is not empty holds the database: behind the head stand whole blocks, each free or an entry's, and each entry has one. The
-- chains of each key visit the entries whose names have it, and those of which one of the ids has it, and one more the free blocks. Of an id
-- that an entry has not, the next word is 0.
pub record IsLaidOut (image : List ℕ) (s : Location) : Type 0 where
  pub size : IsWhole HEAD_LEN image
  pub head : unlinked_head (take HEAD_LEN image) ≡ head_of s (blocks_in image)
  pub blocks : (k : ℕ) → k < blocks_in image → IsFree (block_at image k) ⊎ ((e : VlEntry) × IsBlockOf s e (block_at image k))
  pub only : (rw : ℕ) (e : VlEntry) → s.entry rw ≡ Some e → (k : ℕ) × (k < blocks_in image) × IsBlockOf s e (block_at image k)
  pub one : (j k : ℕ) (e : VlEntry) → j < blocks_in image → k < blocks_in image → IsBlockOf s e (block_at image j)
      → IsBlockOf s e (block_at image k) → j ≡ k
  pub names : (key : ℕ) → key < 256 → Visits name_links image (name_place key) (IsNameWord s image key)
  pub ids : (key : ℕ) → key < 256 → Visits id_links image (id_place key) (IsIdWord s image key)
  pub unused : (k : ℕ) (e : VlEntry) → k < blocks_in image → IsBlockOf s e (block_at image k) → (kind : ℕ) → kind < 3 → id_of kind e ≡ 0
      → word_at (block_at image k) (40 + 4 * kind) ≡ 0
  pub free : HasFree image

-- an image holds a valid state; the empty image holds the first one
pub record Holds (image : List ℕ) (s : Location) : Type 0 where
  pub valid : IsLocation s
  pub laid : IsLaidOut (whole image) s
