use Rattle.std.proofs.Common.{length-drop, arith}
use Rattle.std.proofs.lemmas.List.{take_rest}
use Rattle.server_texts.proofs.Writing.{appended_more}
use Rattle.server_texts.proofs.lines.write_front.Goals as goal

pub loop-done-preserved : goal.loop-done-preserved
loop-done-preserved g c = record {
  within = omega (arith, c.in-Bytes.ensures.appended.within, length-drop c.loop-done.done c.args.bytes.now);
  low = omega (arith, c.loop-done.invariant.low, c.in-Bytes.ensures.cause.never_falls);
  told = appended_more _ _ _ c.args.bytes.now _ c.loop-done.done c.in-Bytes.count c.loop-done.invariant.told (take_rest c.args.bytes.now c.loop-done.done) c.in-Bytes.ensures.appended;
}
