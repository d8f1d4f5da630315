-- What a call that looks for one entry costs, in each of its cases.
use Rattle.std.proofs.Common.{◌≡◌, ℕ, Option, Some, None, IfSome, sym, subst}
use Rattle.db_image.specs.Draft.{Drafted}
use Rattle.db_image.specs.declared.images.ImageRead.{Ghosts}
use Rattle.db_chains.specs.declared.links.Links.{Links}
use Rattle.vldb_records.proofs.Lookups.{costs_free}
use Rattle.vl_calls.specs.declared.calls.VlCall.{VlCall}
use Rattle.vl_service.specs.Costs.{CostsOneChain}
use Rattle.vl_database.specs.Costs.{CostsAsALookUp, look_up_chain}

chain_free : {I : Type 0} (g : Ghosts I) (o : Option (Links × ℕ)) (a b : Drafted I) → b.image ≡ a.image
    → IfSome o (λ chain. CostsOneChain g chain.0 chain.1 a b)
chain_free g None a b same = tt
chain_free g (Some chain) a b same = costs_free g a.bytes chain.0 chain.1 1024 a b same

-- what asks for nothing
pub look_free : {I : Type 0} (g : Ghosts I) (o : Option VlCall) (a b : Drafted I) → b.image ≡ a.image → CostsAsALookUp g o a b
look_free g None a b same = tt
look_free g (Some c) a b same = chain_free g (look_up_chain c) a b same

-- the call that was asked for is this one
pub cost_of : {I : Type 0} (g : Ghosts I) (o p : Option VlCall) (a b : Drafted I) → o ≡ p → CostsAsALookUp g p a b → CostsAsALookUp g o a b
cost_of g o p a b is cost = subst (λ (x : Option VlCall). CostsAsALookUp g x a b) (sym is) cost
