use Rattle.std.proofs.Common.{take}
use Rattle.prdb_finds.specs.Places.{name_links}
use Rattle.pt_calls.specs.Meaning.{id_or_anonymous}
use Rattle.pt_service.specs.Costs.{CostsTheirChains, lowered_chain}
use Rattle.pt_service.proofs.Mapped.{Mapped}
use Rattle.pt_service.proofs.looks.ids_of.Given as goal

abbrev pub invariant-loop-name : goal.invariant-loop-name
invariant-loop-name g l =
    Mapped g.I.ImageRead id_or_anonymous l.fn.d l.d l.names l.ids.items l.name-index
    × CostsTheirChains g.I.ImageRead name_links lowered_chain (take l.name-index l.names) l.fn.d l.d
