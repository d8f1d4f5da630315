-- What it is that an image has a chain (own).
use Rattle.std.specs.Prelude.{ℕ, ◌≡◌, true, List, [], ◌∷◌}
use Rattle.db_blocks.specs.Blocks.{word_at}
use Rattle.db_chains.specs.declared.links.Links.{Links}
use Rattle.db_chains.specs.Links.{is_right, next_place}

-- From a place on an image has the chain of these words: the first stands there and may stand in a chain, and from the place of its next
-- word on there is the chain of the others. Behind the last one stands 0. So the list has no word twice, and there is one at most.
abbrev pub HasChain : Links → List ℕ → (at : ℕ) → List ℕ → Type 0
HasChain l image at [] = word_at image at ≡ 0
HasChain l image at (w ∷ ws) = (word_at image at ≡ w) × (is_right l image w ≡ true) × HasChain l image (next_place l w) ws
