-- The blocks of a layout, by their numbers: block 0 is the head, and blocks of one length follow it (own).
use Rattle.std.specs.Prelude.{ℕ, suc, zero, ◌+◌, ◌-◌, ◌*◌, ◌/◌, ◌<◌, ◌≡◌, nat_lt, if◌then◌else◌}
use Rattle.db_image.specs.declared.services.Layout.{Layout}
use Rattle.db_image.specs.declared.places.Place.{Place}

-- the block that a position lies in
unfoldable pub block_number : Layout → ℕ → ℕ
block_number l at = if nat_lt at l.head then 0 else suc ((at - l.head) / l.block)

-- where a block begins
abbrev pub block_start : Layout → ℕ → ℕ
block_start l zero = 0
block_start l (suc k) = l.head + l.block * k

-- its length
abbrev pub block_size : Layout → ℕ → ℕ
block_size l zero = l.head
block_size l (suc k) = l.block

-- where a position lies: in which block, how far behind its beginning, and how long the block is
pub record IsPlace (l : Layout) (at : ℕ) (p : Place) : Type 0 where
  pub number : p.number ≡ block_number l at
  pub offset : block_start l p.number + p.offset ≡ at
  pub size : p.size ≡ block_size l p.number
  pub within : p.offset < p.size
