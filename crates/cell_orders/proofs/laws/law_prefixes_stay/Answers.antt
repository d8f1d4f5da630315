use Rattle.cell_orders.proofs.Order.{replies_grow}
use Rattle.cell_orders.proofs.laws.law_prefixes_stay.Goals as goal

pub returns : goal.returns
returns c = replies_grow c.law_rules_are_safe.ensures.cell c.lease_rests_on_greatest_start.ensures
