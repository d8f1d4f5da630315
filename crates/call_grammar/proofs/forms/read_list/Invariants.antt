use Rattle.std.proofs.Common.{◌≡◌, ◌-◌}
use Rattle.call_grammar.specs.Reading.{items_at, list_at}
use Rattle.call_grammar.proofs.Loop.{with_front}
use Rattle.call_grammar.proofs.forms.read_list.Given as goal

abbrev pub invariant-loop : goal.invariant-loop
invariant-loop g l = with_front l.items.items (items_at g.F.Form.value_at (l.count - l.counter) l.from) ≡ list_at g.S.Source.item_at l.fn.most g.F.Form.value_at l.fn.from
