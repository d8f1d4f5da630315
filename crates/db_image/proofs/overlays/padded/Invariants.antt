use Rattle.std.proofs.Common.{◌≡◌, ◌++◌, replicate}
use Rattle.db_image.proofs.overlays.padded.Given as goal

abbrev pub invariant-loop : goal.invariant-loop
invariant-loop l = l.all.items ≡ l.bytes ++ replicate l.counter 0
