use Rattle.std.proofs.Common.{take}
use Rattle.prdb_finds.specs.Keys.{id_chain}
use Rattle.prdb_finds.specs.Places.{id_links}
use Rattle.pt_service.specs.Costs.{CostsTheirChains}
use Rattle.pt_service.proofs.Named.{Named}
use Rattle.pt_service.proofs.looks.names_of.Given as goal

abbrev pub invariant-loop-id : goal.invariant-loop-id
invariant-loop-id g l =
    Named g.I.ImageRead l.fn.d l.d l.ids l.names.items l.id-index
    × CostsTheirChains g.I.ImageRead id_links id_chain (take l.id-index l.ids) l.fn.d l.d
