-- What a call that looks for one entry costs: by its name, or by one of its ids.
use Rattle.std.specs.Prelude.{ℕ, Option, Some, None, IfSome}
use Rattle.db_image.specs.Draft.{Drafted}
use Rattle.db_image.specs.declared.images.ImageRead.{Ghosts}
use Rattle.db_chains.specs.declared.links.Links.{Links}
use Rattle.vldb_chains.specs.Keys.{id_chain, name_chain}
use Rattle.vldb_chains.specs.Places.{id_links, name_links}
use Rattle.vl_calls.specs.declared.calls.VlCall.{VlCall}
use Rattle.vl_calls.specs.declared.calls.VlCall.TheVariants as call
use Rattle.vl_service.specs.Costs.{CostsOneChain}

-- the one chain that a call looks in, and where in the head it begins: the name's for getentrybyname, the id's for getentrybyid
abbrev pub look_up_chain : VlCall → Option (Links × ℕ)
look_up_chain (call.GetEntryByName name) = Some (name_links, name_chain name)
look_up_chain (call.GetEntryById id volume_type) = Some (id_links, id_chain id)
look_up_chain _ = None

-- A call that looks in one chain costs what `vl_service` has for it; of other calls, and of bytes that are none, nothing is said.
abbrev pub CostsAsALookUp : {I : Type 0} → Ghosts I → Option VlCall → (old new : Drafted I) → Type 0
CostsAsALookUp g asked old new =
    IfSome asked (λ c. IfSome (look_up_chain c) (λ chain. CostsOneChain g chain.0 chain.1 old new))
