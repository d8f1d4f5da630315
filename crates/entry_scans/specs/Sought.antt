-- What a pass over the blocks looks for.
use Rattle.std.specs.Prelude.{ℕ, Bool, ◌&&◌, ◌==◌, List}
use Rattle.db_blocks.specs.Blocks.{kind_of}
use Rattle.prdb_layout.specs.Records.{entry_in}
use Rattle.prdb_layout.specs.State.{PrEntry}

-- a block is that of an entry which meets a test
abbrev pub is_sought : (PrEntry → Bool) → List ℕ → Bool
is_sought test block = kind_of block == 1 && test (entry_in block)
