use Rattle.std.proofs.Common.{length, length-drop, ◌≡◌, ap, arith}
use Rattle.std.proofs.lemmas.List.{take_rest}
use Rattle.cell_script.proofs.Writing.{appended_more}
use Rattle.cell_script.proofs.writers.write_whole.Goals as goal

pub loop-done-preserved : goal.loop-done-preserved
loop-done-preserved g c = record {
  within = omega (arith, c.in-Bytes.ensures.appended.within, length-drop c.loop-done.done c.args.bytes.now);
  told = appended_more _ _ _ c.args.bytes.now _ c.loop-done.done c.in-Bytes.count c.loop-done.invariant.told (take_rest c.args.bytes.now c.loop-done.done) c.in-Bytes.ensures.appended;
  empty = λ none. let some : length c.args.bytes.now ≡ 0 = ap length none in absurd (omega arith);
  faults = omega (arith, c.write.ensures.cause.never_falls);
}
