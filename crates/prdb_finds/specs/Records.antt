-- How an image holds the protection database with its chains (layout of format 1).
use Rattle.std.specs.Prelude.{ℕ, ℤ, pos, ◌≡◌, ◌≢◌, ◌+◌, ◌-◌, ◌<◌, ◌≤◌, ◌<ℤ◌, List, [], ◌∷◌}
use Rattle.std.specs.List.{Contains}
use Rattle.db_blocks.specs.Blocks.{IsWhole, word_at, kind_of}
use Rattle.db_chains.specs.Chains.{HasChain}
use Rattle.db_chains.specs.Free.{IsAscending, free_links}
use Rattle.db_chains.specs.Visits.{Visits}
use Rattle.db_chains.specs.Keys.{name_key}
use Rattle.prdb_layout.specs.Blocks.{block_count}
use Rattle.prdb_layout.specs.Records.{block_in, entry_in}
use Rattle.prdb_layout.specs.Registry.{Registry}
use Rattle.prdb_layout.specs.State.{PrEntry}
use Rattle.prdb_layout.specs.declared.blocks.TheConstants.{HEAD_LEN}
use Rattle.prdb_lists.specs.Layout.{HoldsPairs}
use Rattle.prdb_lists.specs.Members.{Members}
use Rattle.prdb_finds.specs.First.{first_image}
use Rattle.prdb_finds.specs.Keys.{id_key}
use Rattle.prdb_finds.specs.Places.{free_blocks, id_links, id_place, name_links, name_place, owned_links, owned_place}
use Rattle.prdb_finds.specs.Unchained.{unchained}

-- the empty image is read as the first one
unfoldable pub whole : List ℕ → List ℕ
whole [] = first_image
whole (b ∷ bytes) = b ∷ bytes

-- ---- chains

-- the block of a number, the first being 1, is that of an entry of which this holds
pub record IsEntryAt (image : List ℕ) (holds : PrEntry → Type 0) (n : ℕ) : Type 0 where
  pub some : 0 < n
  pub within : n ≤ block_count image
  pub kind : kind_of (block_in image (n - 1)) ≡ 1
  pub belongs : holds (entry_in (block_in image (n - 1)))

abbrev pub HasNameKey : (key : ℕ) → PrEntry → Type 0
HasNameKey key e = name_key e.name ≡ key

abbrev pub HasIdKey : (key : ℕ) → PrEntry → Type 0
HasIdKey key e = id_key e.id ≡ key

-- a group of this owner
abbrev pub IsGroupOf : (owner : ℤ) → PrEntry → Type 0
IsGroupOf owner e = (e.id <ℤ pos 0) × (e.owner ≡ owner)

-- a group that has an owner
abbrev pub IsOwned : PrEntry → Type 0
IsOwned e = (e.id <ℤ pos 0) × (e.owner ≢ pos 0)

-- the free blocks stand in their chain in ascending order
pub record HasFree (image : List ℕ) : Type 0 where
  pub words : List ℕ
  pub chain : HasChain (free_links free_blocks) image 20 words
  pub ascending : IsAscending words
  pub each : (k : ℕ) → k < block_count image → kind_of (block_in image k) ≡ 0 → Contains words (k + 1)

-- The chains of each key visit the entries of which the names or the ids have it, that of an entry the groups that it owns, and one more
-- the free blocks. An entry that is no group with an owner has no next word of its owner's chain.
pub record AreChains (image : List ℕ) : Type 0 where
  pub names : (key : ℕ) → key < 256 → Visits name_links image (name_place key) (IsEntryAt image (HasNameKey key))
  pub ids : (key : ℕ) → key < 256 → Visits id_links image (id_place key) (IsEntryAt image (HasIdKey key))
  pub owned : (k : ℕ) → k < block_count image → kind_of (block_in image k) ≡ 1
      → Visits owned_links image (owned_place k) (IsEntryAt image (IsGroupOf (entry_in (block_in image k)).id))
  pub unused : (k : ℕ) → k < block_count image → kind_of (block_in image k) ≡ 1 → ¬ IsOwned (entry_in (block_in image k))
      → word_at (block_in image k) 104 ≡ 0
  pub free : HasFree image

-- ---- an image

-- An image holds a registry and a set of pairs: behind the head stand whole blocks, without the words of chains it is an image that holds
-- them, and the chains visit what they must. The empty image is read as the first one.
pub record Holds (image : List ℕ) (r : Registry) (m : Members) : Type 0 where
  pub size : IsWhole HEAD_LEN (whole image)
  pub pairs : HoldsPairs (unchained (whole image)) r m
  pub chains : AreChains (whole image)
