-- What a scan has kept.
use Rattle.std.specs.Prelude.{ℕ, ◌+◌, ◌≤◌, List}
use Rattle.std.specs.List.{All}
use Rattle.db_blocks.specs.Blocks.{block_place}
use Rattle.db_blocks.specs.declared.blocks.TheConstants.{BLOCK_LEN}
use Rattle.db_blocks.specs.declared.keyed.Kept.{Kept}

-- all of them lie within so many bytes
abbrev pub AreWithin : (head len : ℕ) → List Kept → Type 0
AreWithin head len kept = All (λ (k : Kept). block_place head k.number + BLOCK_LEN ≤ len) kept
