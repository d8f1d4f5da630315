use Rattle.std.proofs.Common.{arith}
use Rattle.std.proofs.lemmas.List.{length-drop, take_rest}
use Rattle.db_image.proofs.Laying.{lays_more}
use Rattle.db_image.proofs.overlays.Overlay.lay.Goals as goal

pub loop-done-preserved : goal.loop-done-preserved
loop-done-preserved c = record {
  within = omega (arith, c.lay_part-done.ensures.most, length-drop c.loop-done.done c.args.bytes.now);
  lays = lays_more c.args.self.now c.loop-done.self c.lay_part-done.new.self c.args.at c.loop-done.done c.lay_part-done.result c.args.bytes.now
      (omega arith) c.loop-done.invariant.lays (rw (take_rest c.args.bytes.now c.loop-done.done) at c.lay_part-done.ensures.lays);
  full = c.lay_part-done.ensures.full;
}
