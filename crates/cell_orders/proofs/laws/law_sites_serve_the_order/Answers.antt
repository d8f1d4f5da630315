use Rattle.cell_orders.proofs.Order.{sites_serve_the_order}
use Rattle.cell_orders.proofs.laws.law_sites_serve_the_order.Goals as goal

pub returns : goal.returns
returns c = sites_serve_the_order c.law_rules_are_safe.ensures.cell c.lease_rests_on_greatest_start.ensures
