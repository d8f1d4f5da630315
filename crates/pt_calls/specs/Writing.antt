-- Values as they are written, one after the other.
use Rattle.std.specs.Prelude.{ℕ, ◌≤◌, List, length}
use Rattle.std.specs.List.{AllByRecursion}
use Rattle.call_grammar.specs.Items as item
use Rattle.call_grammar.specs.Lists.{TextsOf, listed}
use Rattle.pt_calls.specs.declared.limits.TheConstants.{MAX_LIST}
use Rattle.pt_calls.specs.declared.texts.Value.{Value}
use Rattle.pt_calls.specs.declared.texts.Value.TheVariants as lent
use Rattle.pt_calls.specs.Shapes.{IsName}

abbrev pub value_text : TextsOf → Value → List ℕ
value_text text (lent.Number n) = text item.Number n.now
value_text text (lent.Id z) = text item.Signed z.now
value_text text (lent.Truth b) = text item.Truth b.now
value_text text (lent.Name name) = text item.Text name.now
value_text text (lent.Names names) = listed text (text item.Text) names.now
value_text text (lent.Ids ids) = listed text (text item.Signed) ids.now

-- the names and lists are bounded
abbrev pub IsShort : Value → Type 0
IsShort (lent.Number n) = Unit {0}
IsShort (lent.Id z) = Unit {0}
IsShort (lent.Truth b) = Unit {0}
IsShort (lent.Name text) = IsName text.now
IsShort (lent.Names texts) = (length texts.now ≤ MAX_LIST) × AllByRecursion IsName texts.now
IsShort (lent.Ids ids) = length ids.now ≤ MAX_LIST
