use Rattle.cell_orders.proofs.Order.{majorities_keep}
use Rattle.cell_orders.proofs.laws.law_majorities_keep.Goals as goal

pub returns : goal.returns
returns c = majorities_keep c.law_rules_are_safe.ensures.cell c.lease_rests_on_greatest_start.ensures
