use Rattle.std.proofs.Common.{◌≡◌, ◌++◌, length, take}
use Rattle.std.specs.List.{flat_map}
use Rattle.call_grammar.specs.Items.{Number}
use Rattle.call_grammar.proofs.sinks.write_list.Given as goal

abbrev pub invariant-loop-item : goal.invariant-loop-item
invariant-loop-item g l = g.W.Sink.written l.out ≡ g.W.Sink.written l.fn.out ++ (g.W.Sink.text_of Number (length l.items) ++ flat_map g.F.Telling.text (take l.item-index l.items))
