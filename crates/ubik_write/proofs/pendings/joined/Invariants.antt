use Rattle.std.proofs.Common.{◌≡◌, drop}
use Rattle.cell_model.specs.Pieces.{joined}
use Rattle.ubik_write.proofs.PieceLists.{with_rest}
use Rattle.ubik_write.proofs.pendings.joined.Given as goal

abbrev pub invariant-loop-piece : goal.invariant-loop-piece
invariant-loop-piece l = joined l.pieces ≡ with_rest l.text.items (joined (drop l.piece-index l.pieces))
