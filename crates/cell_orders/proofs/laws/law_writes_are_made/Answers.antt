use Rattle.cell_orders.proofs.Order.{writes_are_made}
use Rattle.cell_orders.proofs.laws.law_writes_are_made.Goals as goal

pub returns : goal.returns
returns c = writes_are_made c.law_rules_are_safe.ensures.cell c.lease_rests_on_greatest_start.ensures
