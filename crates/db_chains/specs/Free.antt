-- The free blocks of an image: how one is taken, and how one is freed (own).
use Rattle.std.specs.Prelude.{ℕ, ◌≡◌, ◌≢◌, ◌+◌, ◌-◌, ◌*◌, ◌^◌, ◌<◌, ◌≤◌, ◌⊎◌, ◌==◌, List, [], ◌∷◌, ◌++◌, drop, length, max, nat_lt, slice_get, slice_index, unwrap_or, if◌then◌else◌}
use Rattle.std.specs.List.{AllByRecursion}
use Rattle.db_image.specs.declared.services.Layout.{Layout}
use Rattle.db_image.specs.Draft.{put_cost}
use Rattle.db_blocks.specs.Blocks.{block_count, block_in, block_place, with_block, word_at}
use Rattle.db_blocks.specs.Bytes.{word, zeros}
use Rattle.db_blocks.specs.declared.blocks.TheConstants.{BLOCK_LEN}
use Rattle.db_chains.specs.declared.free_blocks.FreeBlocks.{FreeBlocks}
use Rattle.db_chains.specs.declared.links.Links.{Links}
use Rattle.db_chains.specs.Chains.{HasChain}
use Rattle.db_chains.specs.Changes.{place_above, put_in, put_word, taken_out}
use Rattle.db_chains.specs.Ends.{walk_cost}
use Rattle.db_chains.specs.Links.{AreLinks, block_of}
use Rattle.db_chains.specs.Others.{AreApart}

-- free blocks stand in one chain, by their numbers
abbrev pub free_links : FreeBlocks → Links
free_links f = record { head = f.head; mark = f.mark; next = f.next; step = 1; kinds = 1 }

-- the head has a word for the first free block, and another one for the number of blocks
pub record AreFree (f : FreeBlocks) : Type 0 where
  pub links : AreLinks (free_links f)
  pub first : f.first + 4 ≤ f.head
  pub count : f.count + 4 ≤ f.head
  pub apart : AreApart f.first f.count
  pub mark : f.mark < 2 ^ 32

-- a free block with none behind it: its mark, and zero bytes
abbrev pub blank : FreeBlocks → List ℕ
blank f = word f.mark ++ zeros 188

-- a number is that of a block, the first being 1
pub record IsNumber (f : FreeBlocks) (len n : ℕ) : Type 0 where
  pub some : 0 < n
  pub within : block_place f.head n ≤ len

-- ---- a block is taken

-- the number of the block that is taken next: the first free one, or one behind the last
abbrev pub next_number : FreeBlocks → List ℕ → ℕ
next_number f image = if word_at image f.first == 0 then block_count f.head image + 1 else word_at image f.first

-- a block more behind so many, and the head counts it
unfoldable pub with_new : FreeBlocks → (count : ℕ) → (block image : List ℕ) → List ℕ
with_new f count block image = put_word f.count (count + 1) (with_block f.head count block image)

-- these bytes in the block that is taken next, which is free no longer
unfoldable pub with_taken : FreeBlocks → (block image : List ℕ) → List ℕ
with_taken f block image =
    if word_at image f.first == 0 then with_new f (block_count f.head image) block image
    else with_block f.head (word_at image f.first - 1) block (taken_out (free_links f) f.first image)

-- What the image is after a block was taken: the block of this number has these bytes, all others and the other words of the head stay, and
-- the chain of the free blocks is the one without its first word.
pub record IsTaken (f : FreeBlocks) (block image : List ℕ) (n : ℕ) (new : List ℕ) : Type 0 where
  pub some : 0 < n
  pub size : length new ≡ max (length image) (block_place f.head n)
  pub here : block_in f.head new (n - 1) ≡ block
  pub others : (k : ℕ) → k < block_count f.head image → k ≢ n - 1 → block_in f.head new k ≡ block_in f.head image k
  pub count : word_at new f.count ≡ (if word_at image f.first == 0 then n else word_at image f.count)
  pub words : (p : ℕ) → p + 4 ≤ f.head → AreApart p f.first → AreApart p f.count → word_at new p ≡ word_at image p
  pub free : (ws : List ℕ) → HasChain (free_links f) image f.first ws
      → (n ≡ unwrap_or (slice_get ws 0) (block_count f.head image + 1)) × HasChain (free_links f) new f.first (drop 1 ws)

-- how many bytes are read at most where a block is taken
abbrev pub take_cost : Layout → ℕ
take_cost layout = 200 + 3 * put_cost layout 4 + put_cost layout 192

-- ---- a block is freed

-- a block is blank, and its word comes into the chain of the free blocks before the first word above it
unfoldable pub with_freed : FreeBlocks → (n : ℕ) → List ℕ → List ℕ
with_freed f n image =
    put_in (free_links f) (place_above (free_links f) f.first n image) n (with_block f.head (n - 1) (blank f) image)

-- each number is below those behind it
abbrev pub IsAscending : List ℕ → Type 0
IsAscending [] = Unit {0}
IsAscending (w ∷ ws) = AllByRecursion (λ v. w < v) ws × IsAscending ws

-- the list with a number more, before the first one above it
abbrev pub put_among : ℕ → List ℕ → List ℕ
put_among n [] = n ∷ []
put_among n (w ∷ ws) = if nat_lt n w then n ∷ w ∷ ws else w ∷ put_among n ws

-- a byte of a block that is none of a free block's next word
abbrev pub IsBesideNext : FreeBlocks → (i : ℕ) → Type 0
IsBesideNext f i = (i < f.next) ⊎ (f.next + 4 ≤ i)

-- What the image is after a block was freed that was not among these free ones: its word is among them at its ascending place, and it is
-- blank but for its next word. All blocks that are not free stay, the free ones but for their next words, and the other words of the head.
pub record IsFreed (f : FreeBlocks) (ws : List ℕ) (n : ℕ) (image new : List ℕ) : Type 0 where
  pub size : length new ≡ length image
  pub free : HasChain (free_links f) new f.first (put_among n ws)
  pub ascending : IsAscending (put_among n ws)
  pub blank : (i : ℕ) → i < BLOCK_LEN → IsBesideNext f i → slice_index (block_in f.head new (n - 1)) i ≡ slice_index (blank f) i
  pub kept : (k i : ℕ) → k < block_count f.head image → k ≢ n - 1 → i < BLOCK_LEN → IsBesideNext f i
      → slice_index (block_in f.head new k) i ≡ slice_index (block_in f.head image k) i
  pub others : (k : ℕ) → k < block_count f.head image → k ≢ n - 1 → word_at image (block_place f.head k) ≢ f.mark
      → block_in f.head new k ≡ block_in f.head image k
  pub words : (p : ℕ) → p + 4 ≤ f.head → AreApart p f.first → word_at new p ≡ word_at image p

-- chains of blocks that bear another mark than the free ones
pub record AreNotFree (f : FreeBlocks) (m : Links) : Type 0 where
  pub links : AreLinks m
  pub head : m.head ≡ f.head
  pub mark : m.mark ≢ f.mark

-- none of these words names the block of a number
abbrev pub NameOthers : Links → (n : ℕ) → List ℕ → Type 0
NameOthers m n vs = AllByRecursion (λ v. block_of m v ≢ n - 1) vs

-- how many bytes are read at most where a block is freed, in an image of this length
abbrev pub free_cost : FreeBlocks → Layout → (len : ℕ) → ℕ
free_cost f layout len = walk_cost (free_links f) len + 4 + 2 * put_cost layout 4 + put_cost layout 192
