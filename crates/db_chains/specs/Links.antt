-- The words of chains. A word names a block, and which of the block's next words is the one behind it (own).
use Rattle.std.specs.Prelude.{ℕ, ◌+◌, ◌-◌, ◌*◌, ◌/◌, ◌%◌, ◌^◌, ◌<◌, ◌≤◌, ◌&&◌, ◌==◌, Bool, not, nat_lt, List}
use Rattle.db_blocks.specs.Blocks.{block_count, block_place, word_at}
use Rattle.db_blocks.specs.declared.blocks.TheConstants.{BLOCK_LEN}
use Rattle.db_chains.specs.declared.links.Links.{Links}

-- the block that a word names, the first behind the head being 0
abbrev pub block_of : Links → ℕ → ℕ
block_of l w = w / l.step - 1

-- which of that block's next words it has
abbrev pub kind_of : Links → ℕ → ℕ
kind_of l w = w % l.step

-- where a word's next one stands in the block
abbrev pub next_in : Links → ℕ → ℕ
next_in l w = l.next + 4 * kind_of l w

-- and where in the image
abbrev pub next_place : Links → ℕ → ℕ
next_place l w = block_place l.head (block_of l w) + next_in l w

-- where the mark of a word's block stands
abbrev pub mark_place : Links → ℕ → ℕ
mark_place l w = block_place l.head (block_of l w)

-- a word names one of so many blocks, and a kind that there is
abbrev pub names_block : Links → (count : ℕ) → ℕ → Bool
names_block l count w = nat_lt 0 (w / l.step) && not (nat_lt count (w / l.step)) && nat_lt (kind_of l w) l.kinds

-- a word may stand in a chain of an image: it names a block that bears the mark
unfoldable pub is_right : Links → List ℕ → ℕ → Bool
is_right l image w = names_block l (block_count l.head image) w && word_at image (mark_place l w) == l.mark

-- the next words of all kinds stand in the block, behind its mark
pub record AreLinks (l : Links) : Type 0 where
  pub head : l.head < 2 ^ 24
  pub step : 0 < l.step
  pub mark : 4 ≤ l.next
  pub within : l.next + 4 * l.kinds ≤ BLOCK_LEN
