use Rattle.std.proofs.Common.{take}
use Rattle.ubik_write.specs.Undo.{IsUndone}
use Rattle.ubik_write.proofs.undo.undone.Given as goal

abbrev pub invariant-loop-patch : goal.invariant-loop-patch
invariant-loop-patch l = IsUndone (take l.patch-index l.undo) l.at l.fn.buf l.buf
