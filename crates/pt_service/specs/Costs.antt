-- What a call that looks for entries costs, in bytes that it asks of the image beneath a draft (own).
use Rattle.std.specs.Prelude.{ℕ, ◌+◌, ◌*◌, List, IfSome, length}
use Rattle.std.specs.List.{AllByRecursion, sum_by}
use Rattle.db_image.specs.Draft.{Drafted}
use Rattle.db_image.specs.declared.images.ImageRead.{Ghosts}
use Rattle.db_blocks.specs.declared.blocks.TheConstants.{BLOCK_LEN}
use Rattle.db_chains.specs.Chains.{HasChain}
use Rattle.db_chains.specs.Ends.{CostsAtMost}
use Rattle.db_chains.specs.declared.links.Links.{Links}
use Rattle.prdb_layout.specs.Names.{lowered}
use Rattle.prdb_finds.specs.Keys.{name_chain}
use Rattle.ubik_types.specs.declared.words.TheConstants.{WORD_LEN}

-- along the chain of these words: the word that it begins with, and a block for each word
abbrev pub chain_cost : List ℕ → ℕ
chain_cost words = WORD_LEN + BLOCK_LEN * length words

-- where the image has a chain from a place of the head on: what it costs, at most
abbrev pub CostsOneChain : {I : Type 0} → Ghosts I → Links → (at : ℕ) → (old new : Drafted I) → Type 0
CostsOneChain g links at old new = IfSome old.bytes (λ image. (words : List ℕ) → HasChain links image at words
    → CostsAtMost g (chain_cost words) old new)

-- Where the image has the chain of each item of a list, from the item's place of the head on: the sum of what they cost, at most. An item
-- counts as often as it stands in the list.
abbrev pub CostsTheirChains : {I X : Type 0} → Ghosts I → Links → (place_of : X → ℕ) → List X → (old new : Drafted I) → Type 0
CostsTheirChains {X = X} g links place_of items old new = IfSome old.bytes (λ image. (chain_of : X → List ℕ)
    → AllByRecursion (λ x. HasChain links image (place_of x) (chain_of x)) items
    → CostsAtMost g (sum_by (λ x. chain_cost (chain_of x)) items) old new)

-- where the chain of a name begins as the name is looked for, which is in lower case
abbrev pub lowered_chain : List ℕ → ℕ
lowered_chain name = name_chain (lowered name)
