use Rattle.prdb_members.proofs.MoveEnds.{move_first, move_ordered}
use Rattle.prdb_members.proofs.laws.law_move_keeps_the_order.Goals as goal

pub returns : goal.returns
returns c = record { first = move_first; order = move_ordered }
