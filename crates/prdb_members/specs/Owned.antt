-- What an entry owns, in the order of its owned chain (own).
use Rattle.std.specs.Prelude.{ℕ, ℤ, ◌≡◌, ◌-◌, List, map}
use Rattle.db_chains.specs.Chains.{HasChain}
use Rattle.prdb_layout.specs.Records.{block_in, entry_in}
use Rattle.prdb_lists.specs.Changes.{place_in}
use Rattle.prdb_finds.specs.Places.{owned_links, owned_place}

-- the ids of the entries in the blocks that these words name
abbrev pub ids_along : List ℕ → (words : List ℕ) → List ℤ
ids_along image words = map (λ w. (entry_in (block_in image (w - 1))).id) words

-- those of the owned chain that begins in the entry's block
abbrev pub AreInOrder : List ℕ → (owner : ℤ) → List ℤ → Type 0
AreInOrder image owner ids =
    (words : List ℕ) × HasChain owned_links image (owned_place (place_in image owner)) words × (ids ≡ ids_along image words)
