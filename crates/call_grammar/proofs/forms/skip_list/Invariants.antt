use Rattle.std.proofs.Common.{◌≡◌, ◌-◌}
use Rattle.call_grammar.specs.Reading.{items_at, list_at, rest_of}
use Rattle.call_grammar.proofs.forms.skip_list.Given as goal

abbrev pub invariant-loop : goal.invariant-loop
invariant-loop g l = rest_of (items_at g.F.SkipForm.value_at (l.count - l.counter) l.from) ≡ rest_of (list_at g.S.Source.item_at l.fn.most g.F.SkipForm.value_at l.fn.from)
