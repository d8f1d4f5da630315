-- Values as they are written, one after the other.
use Rattle.std.specs.Prelude.{ℕ, ◌≤◌, List, length}
use Rattle.call_grammar.specs.Items as item
use Rattle.call_grammar.specs.Items.{IsText}
use Rattle.call_grammar.specs.Lists.{TextsOf, listed}
use Rattle.vl_calls.specs.declared.limits.TheConstants.{MAX_SITES}
use Rattle.vl_calls.specs.declared.texts.Value.{Value}
use Rattle.vl_calls.specs.declared.texts.Value.TheVariants as lent
use Rattle.vl_calls.specs.Entries.{site_text}

abbrev pub value_text : TextsOf → Value → List ℕ
value_text text (lent.Number n) = text item.Number n.now
value_text text (lent.Signed z) = text item.Signed z.now
value_text text (lent.Truth b) = text item.Truth b.now
value_text text (lent.Name name) = text item.Text name.now
value_text text (lent.Sites sites) = listed text (site_text text) sites.now

-- the names and lists are bounded
abbrev pub IsShort : Value → Type 0
IsShort (lent.Number n) = Unit {0}
IsShort (lent.Signed z) = Unit {0}
IsShort (lent.Truth b) = Unit {0}
IsShort (lent.Name name) = IsText name.now
IsShort (lent.Sites sites) = length sites.now ≤ MAX_SITES
