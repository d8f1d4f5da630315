use Rattle.prdb_members.proofs.MoveEnds.{move_held}
use Rattle.prdb_members.proofs.laws.law_move_keeps_the_pairs.Goals as goal

pub returns : goal.returns
returns c = λ image r m old new others h may list. move_held image r m old new others h may list
