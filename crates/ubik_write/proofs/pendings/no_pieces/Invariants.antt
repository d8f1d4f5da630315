use Rattle.std.proofs.Common.{◌≡◌, None, replicate}
use Rattle.ubik_write.proofs.pendings.no_pieces.Given as goal

abbrev pub invariant-loop-place : goal.invariant-loop-place
invariant-loop-place l = l.pieces.items ≡ replicate l._place None
