-- What the calls that look for pairs and for owned groups cost, in bytes that they ask of the image beneath a draft (own).
use Rattle.std.specs.Prelude.{ℕ, ℤ, ◌≡◌, ◌+◌, true, List, IfSome, length}
use Rattle.db_image.specs.Draft.{Drafted}
use Rattle.db_image.specs.declared.images.ImageRead.{Ghosts}
use Rattle.db_chains.specs.Chains.{HasChain}
use Rattle.db_chains.specs.Ends.{CostsAtMost}
use Rattle.prdb_layout.specs.Registry.{Registry}
use Rattle.entry_scans.specs.Lists.{IsListOf}
use Rattle.prdb_lists.specs.Changes.{blocks_for}
use Rattle.prdb_lists.specs.Members.{Members, are_paired}
use Rattle.prdb_finds.specs.Keys.{id_chain}
use Rattle.prdb_finds.specs.Owned.{HasOwned}
use Rattle.prdb_finds.specs.Places.{id_links}
use Rattle.prdb_finds.specs.Records.{Holds}
use Rattle.prdb_members.specs.Costs.{list_cost}
use Rattle.pt_service.specs.Costs.{chain_cost}

-- the groups of an owner, where the image has the one chain of the id and the owned one: both chains
abbrev pub CostsOwned : {I : Type 0} → Ghosts I → (owner : ℤ) → (old new : Drafted I) → Type 0
CostsOwned g owner old new = IfSome old.bytes (λ image. (ws vs : List ℕ) → HasChain id_links image (id_chain owner) ws
    → HasOwned image owner vs → CostsAtMost g (chain_cost ws + chain_cost vs) old new)

-- two ids, where the image has the one chain of each: both chains
abbrev pub CostsTwoChains : {I : Type 0} → Ghosts I → (member group : ℤ) → (old new : Drafted I) → Type 0
CostsTwoChains g member group old new = IfSome old.bytes (λ image. (ws vs : List ℕ) → HasChain id_links image (id_chain member) ws
    → HasChain id_links image (id_chain group) vs → CostsAtMost g (chain_cost ws + chain_cost vs) old new)

-- an entry, and then its list: twice the chain of the id, and the continuation blocks of so many pairs
abbrev pub CostsEntryAndList : {I : Type 0} → Ghosts I → (id : ℤ) → (old new : Drafted I) → Type 0
CostsEntryAndList g id old new =
    IfSome old.bytes
    (λ image. (r : Registry) (m : Members) (ws : List ℕ) (ids : List ℤ) → Holds image r m → HasChain id_links image (id_chain id) ws
    → IsListOf (λ other. are_paired m id other ≡ true) ids
    → CostsAtMost g (chain_cost ws + list_cost (length ws) (blocks_for (length ids))) old new)

-- two entries, and then the list of the first
abbrev pub CostsTwoAndList : {I : Type 0} → Ghosts I → (member group : ℤ) → (old new : Drafted I) → Type 0
CostsTwoAndList g member group old new =
    IfSome old.bytes
    (λ image. (r : Registry) (m : Members) (ws vs : List ℕ) (ids : List ℤ) → Holds image r m
    → HasChain id_links image (id_chain member) ws → HasChain id_links image (id_chain group) vs
    → IsListOf (λ other. are_paired m member other ≡ true) ids
    → CostsAtMost g (chain_cost ws + chain_cost vs + list_cost (length ws) (blocks_for (length ids))) old new)
