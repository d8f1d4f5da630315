-- What is read of a block.
use Rattle.std.specs.Prelude.{ℕ, ℤ, ◌≡◌, ◌+◌, ◌-◌, ◌*◌, ◌<◌, ◌≤◌, ◌==◌, ◌&&◌, Bool, true, List, map}
use Rattle.std.specs.List.{All, range_with_len}
use Rattle.std.specs.Ordering.{int_eq}
use Rattle.db_blocks.specs.Blocks.{block_place, kind_of}
use Rattle.prdb_layout.specs.Records.{block_in, signed_at}
use Rattle.db_blocks.specs.declared.blocks.TheConstants.{BLOCK_LEN}
use Rattle.prdb_layout.specs.declared.blocks.TheConstants.{HEAD_LEN}
use Rattle.prdb_lists.specs.declared.layout.TheConstants.{MORE_ENTRY_AT}

-- so many signed numbers from a place on
abbrev pub ids_in : List ℕ → (at count : ℕ) → List ℤ
ids_in block at count = map (λ i. signed_at block (at + 4 * i)) (range_with_len 0 count)

-- a continuation block of an entry
abbrev pub is_more_of : ℤ → List ℕ → Bool
is_more_of entry block = kind_of block == 2 && int_eq (signed_at block MORE_ENTRY_AT) entry

-- the word names one of so many blocks, and it is a continuation of an entry
pub record IsMore (image : List ℕ) (entry : ℤ) (link count : ℕ) : Type 0 where
  pub some : 0 < link
  pub within : link ≤ count
  pub kind : is_more_of entry (block_in image (link - 1)) ≡ true

-- these blocks lie within so many bytes
abbrev pub AreWithin : (len : ℕ) → List ℕ → Type 0
AreWithin len blocks = All (λ k. block_place HEAD_LEN k + BLOCK_LEN ≤ len) blocks
