-- What stands in the blocks of a chain (own).
use Rattle.std.specs.Prelude.{ℕ, ◌≡◌, Bool, false, List, map}
use Rattle.db_blocks.specs.Blocks.{block_in, word_at}
use Rattle.db_chains.specs.declared.links.Links.{Links}
use Rattle.db_chains.specs.Chains.{HasChain}
use Rattle.db_chains.specs.Links.{block_of}

-- the word at an offset of each block that these words name
abbrev pub along : Links → List ℕ → (offset : ℕ) → List ℕ → List ℕ
along l image offset words = map (λ w. word_at (block_in l.head image (block_of l w)) offset) words

-- those of the chain from a place on
abbrev pub StandAlong : Links → List ℕ → (at offset : ℕ) → List ℕ → Type 0
StandAlong l image at offset found = (words : List ℕ) × HasChain l image at words × (found ≡ along l image offset words)

-- a walk to the end of a chain looks for nothing
abbrev pub to_end : ℕ → List ℕ → Bool
to_end word block = false
