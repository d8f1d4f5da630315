use Rattle.std.proofs.Common.{◌≡◌, get_or, subst, arith}
use Rattle.std.proofs.lemmas.List.Elements.{All-get_or}
use Rattle.std.specs.Str.{IsUtf8}
use Rattle.command_lines.proofs.cuts.texts.Goals as goal

pub returns-in_default-clause-not_text : goal.returns-in_default-clause-not_text
returns-in_default-clause-not_text c = λ _ all.
    let at = All-get_or IsUtf8 c.args.words.now c.loop-word.word-index c.word-item.result (omega arith) all in
    let same : get_or c.args.words.now c.loop-word.word-index c.word-item.result ≡ c.as_slice.result.now = cc in
    c.in_default.ensures.cases.0 (subst IsUtf8 same at)
