-- What is found of the groups that an entry owns (own).
use Rattle.std.specs.Prelude.{ℕ, ℤ, ◌≡◌, ◌-◌, ◌<◌, ◌⊎◌, ◌↔◌, true, List, Option, Some, None, IsSome}
use Rattle.std.specs.List.{Contains}
use Rattle.db_chains.specs.Along.{to_end}
use Rattle.db_chains.specs.Chains.{HasChain}
use Rattle.db_chains.specs.Walks.{IsBad}
use Rattle.prdb_layout.specs.Blocks.{block_count}
use Rattle.prdb_layout.specs.Records.{block_in, entry_in, has_id}
use Rattle.prdb_layout.specs.Registry.{Registry}
use Rattle.entry_scans.specs.Lists.{IsListOf}
use Rattle.prdb_lists.specs.Members.{IsOwned}
use Rattle.prdb_finds.specs.Keys.{id_chain}
use Rattle.prdb_finds.specs.Places.{id_links, owned_links, owned_place}

-- no entry has the id, or this is the ascending list of the groups that it owns
abbrev pub AreOwned : Registry → (owner : ℤ) → Option (List ℤ) → Type 0
AreOwned r owner None = r.entry owner ≡ None
AreOwned r owner (Some ids) = IsSome (r.entry owner) × IsListOf (IsOwned r owner) ids

-- these are the ids of the entries in the blocks that these words name
abbrev pub AreIdsOf : List ℕ → (words : List ℕ) → List ℤ → Type 0
AreIdsOf image words ids =
    (id : ℤ) → Contains ids id ↔ ((w : ℕ) × Contains words w × ((entry_in (block_in image (w - 1))).id ≡ id))

-- those of an owned chain
abbrev pub AreInOwned : List ℕ → (at : ℕ) → List ℤ → Type 0
AreInOwned image at ids = (words : List ℕ) × HasChain owned_links image at words × AreIdsOf image words ids

-- those of the owned chain that begins in a block of the id's entry
abbrev pub AreWalked : (owner : ℤ) → List ℤ → List ℕ → Type 0
AreWalked owner ids image =
    (k : ℕ) × (k < block_count image) × (has_id owner (block_in image k) ≡ true) × AreInOwned image (owned_place k) ids

-- each block of an id's entry begins the owned chain of these words; an image that holds a registry has one such block at most
abbrev pub HasOwned : List ℕ → (owner : ℤ) → (words : List ℕ) → Type 0
HasOwned image owner words =
    (k : ℕ) → k < block_count image → has_id owner (block_in image k) ≡ true → HasChain owned_links image (owned_place k) words

-- a bad record of the walk to the entry, or of the one along the groups, which begins in a block of the entry
abbrev pub IsBadOwned : (owner : ℤ) → List ℕ → (bad : ℕ) → Type 0
IsBadOwned owner image bad =
    IsBad id_links (λ w block. has_id owner block) (id_chain owner) image bad
    ⊎ ((k : ℕ) × (k < block_count image) × (has_id owner (block_in image k) ≡ true)
    × IsBad owned_links to_end (owned_place k) image bad)
