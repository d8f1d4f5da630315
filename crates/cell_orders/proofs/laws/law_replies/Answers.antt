use Rattle.cell_orders.proofs.Order.{replies_are_single, replies_are_given, replies_answer_asks, replies_have_acknowledged}
use Rattle.cell_orders.proofs.laws.law_replies.Goals as goal

pub returns : goal.returns
returns c = record {
  single = replies_are_single c.law_rules_are_safe.ensures.cell c.lease_rests_on_greatest_start.ensures;
  given = replies_are_given c.law_rules_are_safe.ensures.cell c.lease_rests_on_greatest_start.ensures;
  asked = replies_answer_asks c.law_rules_are_safe.ensures.cell c.lease_rests_on_greatest_start.ensures;
  acknowledged = replies_have_acknowledged c.law_rules_are_safe.ensures.cell c.lease_rests_on_greatest_start.ensures;
}
