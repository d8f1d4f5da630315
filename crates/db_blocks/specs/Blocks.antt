-- An image as a head and blocks of one length behind it, whatever its bytes are (own).
use Rattle.std.specs.Prelude.{ℕ, zero, suc, ◌≡◌, ◌+◌, ◌-◌, ◌*◌, ◌/◌, ◌<◌, Bool, List, length, take, drop, Option, Some, None, if◌then◌else◌, ◌⊎◌, ◌&&◌, ◌==◌, ◌∷◌, ◌++◌}
use Rattle.std.specs.Int.{w32, from_be_bytes}
use Rattle.ubik_types.specs.Image.{changed}
use Rattle.ubik_types.specs.declared.images.Change.TheVariants.{Put}
use Rattle.db_blocks.specs.declared.blocks.TheConstants.{BLOCK_LEN}
use Rattle.db_blocks.specs.declared.scans.Found.{Found}
use Rattle.db_blocks.specs.Bytes.{zeros}

-- the word that stands at a place
abbrev pub word_at : List ℕ → ℕ → ℕ
word_at bytes at = from_be_bytes w32 (take 4 (drop at bytes))

-- where a block begins, behind a head of this length; the first has the number 0
abbrev pub block_place : (head : ℕ) → ℕ → ℕ
block_place head k = head + BLOCK_LEN * k

-- how many blocks stand behind the head
abbrev pub block_count : (head : ℕ) → List ℕ → ℕ
block_count head image = (length image - head) / BLOCK_LEN

-- a head, and whole blocks behind it
abbrev pub IsWhole : (head : ℕ) → List ℕ → Type 0
IsWhole head image = length image ≡ block_place head (block_count head image)

-- a block's bytes
unfoldable pub block_in : (head : ℕ) → List ℕ → ℕ → List ℕ
block_in head image k = take BLOCK_LEN (drop (block_place head k) image)

-- the first of so many numbers from one on at which a test holds, or the number behind them
abbrev pub first_from : (ℕ → Bool) → (from count : ℕ) → ℕ
first_from test from zero = from
first_from test from (suc count) = if test from then from else first_from test (suc from) count

-- the first block that meets a test, or the number of blocks
abbrev pub first_block : (head : ℕ) → (List ℕ → Bool) → List ℕ → ℕ
first_block head test image = first_from (λ k. test (block_in head image k)) 0 (block_count head image)

-- what a scan found: the first block that meets a test, if one does
abbrev pub IsFirst : (head : ℕ) → (List ℕ → Bool) → List ℕ → Option Found → Type 0
IsFirst head test image None = first_block head test image ≡ block_count head image
IsFirst head test image (Some f) =
    (f.number < block_count head image) × (f.number ≡ first_block head test image) × (f.block ≡ block_in head image f.number)

-- the image in which a block is another one, or one more
abbrev pub with_block : (head : ℕ) → ℕ → List ℕ → List ℕ → List ℕ
with_block head k block image = changed image (Put (block_place head k) block)

-- what a block is: 0 free, 1 an entry, 2 a continuation of an entry's pairs
abbrev pub kind_of : List ℕ → ℕ
kind_of block = word_at block 0

-- bytes with so many zero bytes laid from a position on
abbrev pub blanked : (at len : ℕ) → List ℕ → List ℕ
blanked at len bytes = changed bytes (Put at (zeros len))
