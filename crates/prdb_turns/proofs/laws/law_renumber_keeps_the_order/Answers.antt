use Rattle.prdb_turns.proofs.Ordered.{order_kept}
use Rattle.prdb_turns.proofs.laws.law_renumber_keeps_the_order.Goals as goal

pub returns : goal.returns
returns c = order_kept
