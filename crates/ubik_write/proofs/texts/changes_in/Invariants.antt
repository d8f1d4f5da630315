use Rattle.std.proofs.Common.{◌≡◌, ◌-◌, length}
use Rattle.cell_model.specs.Pieces.{changes_at, changes_in}
use Rattle.ubik_write.proofs.ChangeReading.{with_rest}
use Rattle.ubik_write.proofs.texts.changes_in.Given as goal

abbrev pub invariant-loop-count : goal.invariant-loop-count
invariant-loop-count l = changes_in l.text ≡ with_rest l.changes (changes_at (length l.text - l._count) l.reader)
