-- What a look-up along a chain finds (own).
use Rattle.std.specs.Prelude.{ℕ, ◌≡◌, Bool, true, List, Option, Some, None}
use Rattle.db_blocks.specs.Blocks.{block_in, word_at}
use Rattle.db_chains.specs.Chains.{HasChain}
use Rattle.db_chains.specs.Links.{block_of, is_right}
use Rattle.db_chains.specs.Walks.{first_met, meets, stop_place}
use Rattle.db_chains.specs.declared.links.Links.{Links}
use Rattle.db_chains.specs.declared.walks.Link.{Link}

-- a walk found a block that is what is looked for, or there is none in the chain
abbrev pub IsInChain : Links → (ℕ → List ℕ → Bool) → (at : ℕ) → List ℕ → Option Link → Type 0
IsInChain l test at image None = (ws : List ℕ) → HasChain l image at ws → first_met (meets l test image) ws ≡ None
IsInChain l test at image (Some f) =
    (is_right l image f.word ≡ true) × (f.block ≡ block_in l.head image (block_of l f.word)) × (test f.word f.block ≡ true)

-- a walk ended behind the last word of a chain, where a word is 0
abbrev pub EndsChain : Links → (ℕ → List ℕ → Bool) → (at : ℕ) → List ℕ → Type 0
EndsChain l test at image = word_at image (stop_place l test image at) ≡ 0
