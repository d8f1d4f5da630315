-- An image's blocks as they are read, whatever its bytes are: those of db_blocks, behind this database's head.
use Rattle.std.specs.Prelude.{ℕ, List, take, drop, ◌==◌}
use Rattle.std.specs.List.{before_first}
use Rattle.db_blocks.specs.Blocks.{block_count as any_count}
use Rattle.prdb_layout.specs.declared.blocks.TheConstants.{HEAD_LEN, NAME_AT, NAME_FIELD}

-- how many blocks stand behind the head
abbrev pub block_count : List ℕ → ℕ
block_count image = any_count HEAD_LEN image

-- the name in a block ends before the first zero byte of its field
unfoldable pub block_name : List ℕ → List ℕ
block_name block = before_first (λ b. b == 0) (take NAME_FIELD (drop NAME_AT block))
