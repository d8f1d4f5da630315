use Rattle.std.proofs.Common.{◌≡◌, ◌≤◌, ◌-◌, ◌+◌, false, length, IfSome, vec_capacity}
use Rattle.cell_script.specs.LineSteps.{HasRead}
use Rattle.cell_script.proofs.readers.LimitedReader.next_line.Given as goal

abbrev pub invariant-loop-end : goal.invariant-loop-end
invariant-loop-end g l = record {
  told : IfSome (g.S.Source.left l.fn.source)
      (λ text. HasRead text (g.S.Source.left l.source) l.self-inside.line.items);
  going : l.self-inside.ended ≡ false;
  room : g.row.LIMIT ≤ vec_capacity l.self-inside.line;
  bound : length l.self-inside.line.items ≤ g.row.LIMIT;
  faults : g.S.Source.faults l.fn.source ≤ g.S.Source.faults l.source;
}

abbrev pub decreases-loop-end : goal.decreases-loop-end
decreases-loop-end g l = (g.row.LIMIT + 1) - length l.self-inside.line.items
