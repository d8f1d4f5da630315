-- What a pass over the blocks tells.
use Rattle.std.specs.Prelude.{ℕ, ℤ, ◌≡◌, ◌<◌, ◌↔◌, Bool, true, false, List}
use Rattle.std.specs.List.{Contains}
use Rattle.prdb_layout.specs.Blocks.{block_count}
use Rattle.prdb_layout.specs.Records.{block_in, entry_in}
use Rattle.prdb_layout.specs.State.{PrEntry}
use Rattle.entry_scans.specs.Sought.{is_sought}

-- whether the block of some entry meets a test
abbrev pub HasSought : (PrEntry → Bool) → Bool → List ℕ → Type 0
HasSought test true image = (k : ℕ) × (k < block_count image) × (is_sought test (block_in image k) ≡ true)
HasSought test false image = (k : ℕ) → k < block_count image → is_sought test (block_in image k) ≡ false

-- the block of a number is that of an entry which meets a test, and has this id
abbrev pub IsIdAt : (PrEntry → Bool) → List ℕ → ℤ → (k : ℕ) → Type 0
IsIdAt test image id k = (is_sought test (block_in image k) ≡ true) × ((entry_in (block_in image k)).id ≡ id)

-- the ids of those of so many first blocks
abbrev pub AreIdsOf : (PrEntry → Bool) → (count : ℕ) → List ℤ → List ℕ → Type 0
AreIdsOf test count ids image = (id : ℤ) → Contains ids id ↔ ((k : ℕ) × (k < count) × IsIdAt test image id k)

-- the ids of all
abbrev pub AreIds : (PrEntry → Bool) → List ℤ → List ℕ → Type 0
AreIds test ids image = AreIdsOf test (block_count image) ids image
