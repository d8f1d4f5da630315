-- What looks cost, one after the other.
use Rattle.std.proofs.Common.{◌≡◌, ℕ, ℤ, ◌+◌, ◌*◌, ◌≤◌, true, List, Option, Some, None, IfSome, length, subst, arith}
use Rattle.db_image.specs.Draft.{Drafted}
use Rattle.db_image.specs.declared.images.ImageRead.{Ghosts}
use Rattle.db_image.proofs.ReadSteps.{asks_none, asks_then}
use Rattle.db_chains.specs.Chains.{HasChain}
use Rattle.db_chains.specs.Ends.{CostsAtMost}
use Rattle.prdb_layout.specs.Registry.{Registry}
use Rattle.entry_scans.specs.Lists.{IsListOf}
use Rattle.prdb_lists.specs.Changes.{blocks_for}
use Rattle.prdb_lists.specs.Members.{Members, are_paired}
use Rattle.prdb_finds.specs.Keys.{id_chain}
use Rattle.prdb_finds.specs.Owned.{HasOwned}
use Rattle.prdb_finds.specs.Places.{id_links}
use Rattle.prdb_finds.specs.Records.{Holds}
use Rattle.prdb_members.specs.Costs.{ListCosts, list_cost}
use Rattle.pt_service.specs.Costs.{CostsOneChain, chain_cost}
use Rattle.pt_looks.specs.Costs.{CostsEntryAndList, CostsOwned, CostsTwoAndList, CostsTwoChains}

-- ---- what is said over these bytes

abbrev One : {I : Type 0} → Ghosts I → Option (List ℕ) → (id : ℤ) → (a b : Drafted I) → Type 0
One g bytes id a b =
    IfSome bytes (λ image. (ws : List ℕ) → HasChain id_links image (id_chain id) ws → CostsAtMost g (chain_cost ws) a b)

abbrev Listed : {I : Type 0} → Ghosts I → Option (List ℕ) → (id : ℤ) → (a b : Drafted I) → Type 0
Listed g bytes id a b =
    IfSome bytes
    (λ image. (r : Registry) (m : Members) (ws : List ℕ) (ids : List ℤ) → Holds image r m → HasChain id_links image (id_chain id) ws
    → IsListOf (λ other. are_paired m id other ≡ true) ids → CostsAtMost g (list_cost (length ws) (blocks_for (length ids))) a b)

abbrev Two : {I : Type 0} → Ghosts I → Option (List ℕ) → (member group : ℤ) → (a b : Drafted I) → Type 0
Two g bytes member group a b =
    IfSome bytes
    (λ image. (ws vs : List ℕ) → HasChain id_links image (id_chain member) ws → HasChain id_links image (id_chain group) vs
    → CostsAtMost g (chain_cost ws + chain_cost vs) a b)

abbrev EntryAndList : {I : Type 0} → Ghosts I → Option (List ℕ) → (id : ℤ) → (a b : Drafted I) → Type 0
EntryAndList g bytes id a b =
    IfSome bytes
    (λ image. (r : Registry) (m : Members) (ws : List ℕ) (ids : List ℤ) → Holds image r m → HasChain id_links image (id_chain id) ws
    → IsListOf (λ other. are_paired m id other ≡ true) ids
    → CostsAtMost g (chain_cost ws + list_cost (length ws) (blocks_for (length ids))) a b)

abbrev TwoAndList : {I : Type 0} → Ghosts I → Option (List ℕ) → (member group : ℤ) → (a b : Drafted I) → Type 0
TwoAndList g bytes member group a b =
    IfSome bytes
    (λ image. (r : Registry) (m : Members) (ws vs : List ℕ) (ids : List ℤ) → Holds image r m
    → HasChain id_links image (id_chain member) ws → HasChain id_links image (id_chain group) vs
    → IsListOf (λ other. are_paired m member other ≡ true) ids
    → CostsAtMost g (chain_cost ws + chain_cost vs + list_cost (length ws) (blocks_for (length ids))) a b)

-- ---- an entry, and its list

less : {I : Type 0} (g : Ghosts I) (m n : ℕ) (a b : Drafted I) → m ≤ n → CostsAtMost g m a b → CostsAtMost g n a b
less g m n a b up costs = asks_then m 0 n (g.asked a.image) (g.asked b.image) (g.asked b.image) costs (asks_none 0 (g.asked b.image))
    (omega (arith, up))

more : {I : Type 0} (g : Ghosts I) (m n : ℕ) (a b c : Drafted I) → CostsAtMost g m a b → CostsAtMost g n b c → CostsAtMost g (m + n) a c
more g m n a b c first second =
    asks_then m n (m + n) (g.asked a.image) (g.asked b.image) (g.asked c.image) first second (omega arith)

up_to : (m n : ℕ) → m ≤ m + n
up_to m n = omega arith

entry_alone_of : {I : Type 0} (g : Ghosts I) (bytes : Option (List ℕ)) (id : ℤ) (a b : Drafted I) → One g bytes id a b
    → EntryAndList g bytes id a b
entry_alone_of g None id a b one = tt
entry_alone_of g (Some image) id a b one = λ r m ws ids h chain list.
    let n = list_cost (length ws) (blocks_for (length ids)) in
    less g (chain_cost ws) (chain_cost ws + n) a b (up_to (chain_cost ws) n) (one ws chain)

pub entry_alone : {I : Type 0} (g : Ghosts I) (id : ℤ) (a b : Drafted I) → CostsOneChain g id_links (id_chain id) a b
    → CostsEntryAndList g id a b
entry_alone g id a b one = entry_alone_of g a.bytes id a b one

entry_then_of : {I : Type 0} (g : Ghosts I) (bytes : Option (List ℕ)) (id : ℤ) (a b c : Drafted I) → One g bytes id a b
    → Listed g bytes id b c → EntryAndList g bytes id a c
entry_then_of g None id a b c one list = tt
entry_then_of g (Some image) id a b c one list = λ r m ws ids h chain is.
    more g (chain_cost ws) (list_cost (length ws) (blocks_for (length ids))) a b c (one ws chain) (list r m ws ids h chain is)

pub entry_then : {I : Type 0} (g : Ghosts I) (id : ℤ) (a b c : Drafted I) → CostsOneChain g id_links (id_chain id) a b
    → b.bytes ≡ a.bytes → ListCosts g id b c → CostsEntryAndList g id a c
entry_then g id a b c one same list =
    entry_then_of g a.bytes id a b c one (subst (λ (o : Option (List ℕ)). Listed g o id b c) same list)

-- ---- two entries, and the list of the first

list_alone_of : {I : Type 0} (g : Ghosts I) (bytes : Option (List ℕ)) (member group : ℤ) (a b : Drafted I) → Two g bytes member group a b
    → TwoAndList g bytes member group a b
list_alone_of g None member group a b two = tt
list_alone_of g (Some image) member group a b two = λ r m ws vs ids h first second list.
    let n = list_cost (length ws) (blocks_for (length ids)) in
    less g (chain_cost ws + chain_cost vs) (chain_cost ws + chain_cost vs + n) a b (up_to (chain_cost ws + chain_cost vs) n)
    (two ws vs first second)

pub list_alone : {I : Type 0} (g : Ghosts I) (member group : ℤ) (a b : Drafted I) → CostsTwoChains g member group a b
    → CostsTwoAndList g member group a b
list_alone g member group a b two = list_alone_of g a.bytes member group a b two

list_then_of : {I : Type 0} (g : Ghosts I) (bytes : Option (List ℕ)) (member group : ℤ) (a b c : Drafted I)
    → Two g bytes member group a b → Listed g bytes member b c → TwoAndList g bytes member group a c
list_then_of g None member group a b c two list = tt
list_then_of g (Some image) member group a b c two list = λ r m ws vs ids h first second is.
    more g (chain_cost ws + chain_cost vs) (list_cost (length ws) (blocks_for (length ids))) a b c (two ws vs first second)
    (list r m ws ids h first is)

pub list_then : {I : Type 0} (g : Ghosts I) (member group : ℤ) (a b c : Drafted I) → CostsTwoChains g member group a b
    → b.bytes ≡ a.bytes → ListCosts g member b c → CostsTwoAndList g member group a c
list_then g member group a b c two same list =
    list_then_of g a.bytes member group a b c two (subst (λ (o : Option (List ℕ)). Listed g o member b c) same list)

-- ---- owned groups

both_chains : (w v : ℕ) → 2 * 4 + 192 * (w + v) ≤ 4 + 192 * w + (4 + 192 * v)
both_chains w v = omega arith

owned_of : {I : Type 0} (g : Ghosts I) (bytes : Option (List ℕ)) (owner : ℤ) (a b : Drafted I)
    → IfSome bytes (λ image. (ws vs : List ℕ) → HasChain id_links image (id_chain owner) ws → HasOwned image owner vs
    → CostsAtMost g (2 * 4 + 192 * (length ws + length vs)) a b)
    → IfSome bytes (λ image. (ws vs : List ℕ) → HasChain id_links image (id_chain owner) ws → HasOwned image owner vs
    → CostsAtMost g (chain_cost ws + chain_cost vs) a b)
owned_of g None owner a b costs = tt
owned_of g (Some image) owner a b costs = λ ws vs chain owned.
    less g (2 * 4 + 192 * (length ws + length vs)) (chain_cost ws + chain_cost vs) a b (both_chains (length ws) (length vs))
    (costs ws vs chain owned)

pub owned_costs : {I : Type 0} (g : Ghosts I) (owner : ℤ) (a b : Drafted I)
    → IfSome a.bytes (λ image. (ws vs : List ℕ) → HasChain id_links image (id_chain owner) ws → HasOwned image owner vs
    → CostsAtMost g (2 * 4 + 192 * (length ws + length vs)) a b)
    → CostsOwned g owner a b
owned_costs g owner a b costs = owned_of g a.bytes owner a b costs
