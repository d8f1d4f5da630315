use Rattle.std.proofs.Common.{◌∙◌, eq-eqb, ne_eqb, refl}
use Rattle.ubik_node.proofs.Places.{placed}
use Rattle.ubik_node.proofs.nodes.Node.takes.Goals as goal

pub returns-then-place-me : goal.returns-then-place-me
returns-then-place-me g c =
    rw (placed _ _ _ c.index.ensures.found c.index.ensures.only ∙ c.in-Some.is, ne_eqb _ _ c.if-place-me.true) (rw c.host.ensures refl)

pub returns-else-place-me : goal.returns-else-place-me
returns-else-place-me g c =
    rw (placed _ _ _ c.index.ensures.found c.index.ensures.only ∙ c.in-Some.is, eq-eqb _ _ c.if-place-me.false) refl

pub returns-in-None : goal.returns-in-None
returns-in-None g c = rw (placed _ _ _ c.index.ensures.found c.index.ensures.only ∙ c.in-None.is) refl
