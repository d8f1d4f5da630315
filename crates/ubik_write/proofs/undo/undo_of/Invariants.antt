use Rattle.std.proofs.Common.{◌≡◌, IfSome, map, take}
use Rattle.db_image.specs.Images.{OnlyReads}
use Rattle.ubik_write.specs.Undo.{undo_of}
use Rattle.ubik_write.proofs.undo.undo_of.Given as goal

abbrev pub invariant-loop-change : goal.invariant-loop-change
invariant-loop-change g l = record {
  undo : IfSome (g.I.ImageRead.held l.fn.image) (λ bytes. l.undo.items ≡ map (undo_of bytes) (take l.change-index l.change-items));
  reads : OnlyReads g.I.ImageRead l.fn.image l.image ⊥;
}
