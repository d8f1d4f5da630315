use Rattle.prdb_members.proofs.MoveCosts.{MovingCosts}
use Rattle.prdb_members.proofs.MoveEnds.{Moving}
use Rattle.prdb_members.proofs.moves.move_id.Given as goal

abbrev pub invariant-loop-other : goal.invariant-loop-other
invariant-loop-other g l = record {
  state : Moving g.I.ImageRead l.fn.d l.d l.old_id l.new_id l.other-items l.other-index;
  cost : MovingCosts l.fn.d.bytes l.fn.d.layout l.old_id l.new_id l.other-items l.other-index (g.I.ImageRead.asked l.fn.d.image)
      (g.I.ImageRead.asked l.d.image);
}
