-- What a call that looks for entries costs, in each of its cases.
use Rattle.std.proofs.Common.{◌≡◌, Option, Some, None, sym, subst}
use Rattle.db_image.specs.Draft.{Drafted}
use Rattle.db_image.specs.declared.images.ImageRead.{Ghosts}
use Rattle.prdb_finds.specs.Keys.{id_chain}
use Rattle.prdb_finds.specs.Places.{id_links, name_links}
use Rattle.pt_calls.specs.declared.calls.PtCall.{PtCall}
use Rattle.pt_calls.specs.declared.calls.PtCall.TheVariants as call
use Rattle.pt_service.specs.Costs.{lowered_chain}
use Rattle.pt_service.proofs.Costs.{theirs_none}
use Rattle.pt_database.specs.Costs.{CostsAsLookUps}

-- what asks for nothing
pub looks_free : {I : Type 0} (g : Ghosts I) (o : Option PtCall) (d : Drafted I) → CostsAsLookUps g o d d
looks_free g None d = tt
looks_free g (Some (call.NameToId names)) d = theirs_none g name_links lowered_chain names d
looks_free g (Some (call.IdToName ids)) d = theirs_none g id_links id_chain ids d
looks_free g (Some other) d = tt

-- the call that was asked for is this one
pub cost_of : {I : Type 0} (g : Ghosts I) (o p : Option PtCall) (a b : Drafted I) → o ≡ p → CostsAsLookUps g p a b → CostsAsLookUps g o a b
cost_of g o p a b is cost = subst (λ (x : Option PtCall). CostsAsLookUps g x a b) (sym is) cost
