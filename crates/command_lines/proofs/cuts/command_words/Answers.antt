use Rattle.std.proofs.Common.{◌≡◌, ℕ, List, Option, Some, subst}
use Rattle.std.specs.List.{All}
use Rattle.std.specs.Str.{IsUtf8}
use Rattle.command_lines.specs.Cuts.{HasNoText}
use Rattle.command_lines.proofs.cuts.command_words.Goals as goal

pub returns-in-Some-clause-not_text : goal.returns-in-Some-clause-not_text
returns-in-Some-clause-not_text c = λ fault.
    let e = rw c.in-Some.is at c.in_ok-words.ensures in
    let d : c.deref.result.now ≡ c.in-Some.words.items = c.deref.ensures.value in
    subst (λ (o : Option (List (List ℕ))). HasNoText o) e
    (subst (λ (ws : List (List ℕ)). ¬ (All IsUtf8 ws)) d (c.texts.ensures.not_text fault))
