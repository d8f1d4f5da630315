use Rattle.std.proofs.Common.{arith, sym, ◌∙◌}
use Rattle.vldb_entries.proofs.Positions.{place_found, place_none}
use Rattle.vldb_entries.proofs.forms.place_of.Goals as goal

pub returns-in-Some : goal.returns-in-Some
returns-in-Some c =
    place_found c.args.addresses.now c.args.host c.in-Some.k (sym c.position_of.ensures.at ∙ c.in-Some.is)
    (omega (arith, c.in-Some.ensures.within))

pub returns-in-None : goal.returns-in-None
returns-in-None c = place_none c.args.addresses.now c.args.host (sym c.position_of.ensures.at ∙ c.in-None.is)
