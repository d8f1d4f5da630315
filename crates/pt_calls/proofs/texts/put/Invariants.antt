use Rattle.std.proofs.Common.{◌≡◌, ◌++◌, take}
use Rattle.std.specs.List.{flat_map}
use Rattle.pt_calls.specs.Writing.{value_text}
use Rattle.pt_calls.proofs.texts.put.Given as goal

abbrev pub invariant-loop-value : goal.invariant-loop-value
invariant-loop-value g l =
    g.W.Sink.written l.out ≡ g.W.Sink.written l.fn.out ++ flat_map (value_text g.W.Sink.text_of) (take l.value-index l.values)
