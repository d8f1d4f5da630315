use Rattle.cell_orders.proofs.Order.{acknowledged_stay}
use Rattle.cell_orders.proofs.laws.law_acknowledged_stay.Goals as goal

pub returns : goal.returns
returns c = acknowledged_stay c.law_rules_are_safe.ensures.cell c.lease_rests_on_greatest_start.ensures
