-- What a call that looks for entries costs: by their names, or by their ids.
use Rattle.std.specs.Prelude.{Option, Some, None}
use Rattle.db_image.specs.Draft.{Drafted}
use Rattle.db_image.specs.declared.images.ImageRead.{Ghosts}
use Rattle.prdb_finds.specs.Keys.{id_chain}
use Rattle.prdb_finds.specs.Places.{id_links, name_links}
use Rattle.pt_calls.specs.declared.calls.PtCall.{PtCall}
use Rattle.pt_calls.specs.declared.calls.PtCall.TheVariants as call
use Rattle.pt_service.specs.Costs.{CostsTheirChains, lowered_chain}

-- A call that translates names, or ids, costs what its list of them does; of other calls, and of bytes that are none, nothing is said.
abbrev pub CostsAsLookUps : {I : Type 0} → Ghosts I → Option PtCall → (old new : Drafted I) → Type 0
CostsAsLookUps g (Some (call.NameToId names)) old new = CostsTheirChains g name_links lowered_chain names old new
CostsAsLookUps g (Some (call.IdToName ids)) old new = CostsTheirChains g id_links id_chain ids old new
CostsAsLookUps g (Some other) old new = Unit {0}
CostsAsLookUps g None old new = Unit {0}
