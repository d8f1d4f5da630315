use Rattle.std.proofs.Common.{◌-◌, ◌∷◌, [], length, arith}
use Rattle.disk_base.specs.declared.touches.Touch.TheVariants.{Wrote}
use Rattle.disk_base.proofs.Fills.{IsFilled-covers, covers-end}
use Rattle.disk_base.proofs.memory_files.fill_from.Goals as goal

pub returns : goal.returns
returns c =
    IsFilled-covers c.args.byte (Wrote c.args.start (c.loop-at.at - c.args.start) ∷ []) (Wrote c.args.start c.args.len ∷ [])
    c.args.file.now c.loop-at.file c.loop-at.invariant.filled
    (λ k h. covers-end c.args.start c.args.len c.loop-at.at (length c.args.file.now) 18446744073709551615 k
    (omega arith) (omega arith) c.loop-at.auto.at (omega arith) h)
