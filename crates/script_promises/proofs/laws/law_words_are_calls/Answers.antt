use Rattle.std.proofs.Common.{◌≡◌, ℕ, List, Some, IsSome}
use Rattle.cell_script.specs.declared.lines.Kind.{Kind}
use Rattle.script_promises.specs.Databases.{databases}
use Rattle.script_promises.proofs.Worth.{by_kind}
use Rattle.script_promises.proofs.laws.law_words_are_calls.Goals as goal

abbrev NamesOf : Kind → Type 0
NamesOf k =
    (words : List (List ℕ)) (call : List ℕ) → (databases k).words.call_of words ≡ Some call → IsSome ((databases k).database.writes call)

pub returns : goal.returns
returns c = by_kind NamesOf c.protection_words_name_calls.ensures c.location_words_name_calls.ensures
