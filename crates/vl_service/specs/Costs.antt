-- What a look-up costs, in bytes that it asks of the image beneath a draft.
use Rattle.std.specs.Prelude.{ℕ, ◌+◌, ◌*◌, List, IfSome, length}
use Rattle.db_image.specs.Draft.{Drafted}
use Rattle.db_image.specs.declared.images.ImageRead.{Ghosts}
use Rattle.db_blocks.specs.declared.blocks.TheConstants.{BLOCK_LEN}
use Rattle.db_chains.specs.Chains.{HasChain}
use Rattle.db_chains.specs.Ends.{CostsAtMost}
use Rattle.db_chains.specs.declared.links.Links.{Links}
use Rattle.ubik_types.specs.declared.words.TheConstants.{WORD_LEN}
use Rattle.vldb_entries.specs.Forms.{whole}
use Rattle.vldb_entries.specs.declared.layout.TheConstants.{ADDRESSES_LEN}

-- where the image has a chain from a place of the head on: the word there, the addresses, and a block for each word of the chain, at most
abbrev pub CostsOneChain : {I : Type 0} → Ghosts I → Links → (at : ℕ) → (old new : Drafted I) → Type 0
CostsOneChain g links at old new = IfSome old.bytes (λ image. (ws : List ℕ) → HasChain links (whole image) at ws
    → CostsAtMost g (WORD_LEN + ADDRESSES_LEN + BLOCK_LEN * length ws) old new)
