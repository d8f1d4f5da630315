use Rattle.std.proofs.Common.{length, take, ◌-◌, ◌≡◌, ◌≤◌, ◌++◌, IfSome, Some}
use Rattle.server_texts.proofs.lines.write_front.Given as goal

abbrev pub invariant-loop-done : goal.invariant-loop-done
invariant-loop-done g l = record {
  within : l.done ≤ length l.bytes;
  low : g.K.Sink.faults l.fn.out ≤ g.K.Sink.faults l.out;
  told : IfSome (g.K.Sink.written l.fn.out) (λ before. g.K.Sink.written l.out ≡ Some (before ++ take l.done l.bytes));
}

abbrev pub decreases-loop-done : goal.decreases-loop-done
decreases-loop-done g l = length l.bytes - l.done
