use Rattle.cell_orders.proofs.Order.{announcements_grow}
use Rattle.cell_orders.proofs.laws.law_announcements_grow.Goals as goal

pub returns : goal.returns
returns c = announcements_grow c.law_rules_are_safe.ensures.cell c.lease_rests_on_greatest_start.ensures
