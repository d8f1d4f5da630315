use Rattle.std.proofs.Common.{sym, ◌∙◌}
use Rattle.script_words.proofs.NumberReading.{numeral_is_text, text_is, value_of-parse}
use Rattle.script_words.proofs.numbers.value.Goals as goal

pub returns-in_err-ok : goal.returns-in_err-ok
returns-in_err-ok c =
    absurd (numeral_is_text _ _ c.from_utf8.result c.args.digits.now c.requires c.from_utf8.ensures.cases
    (sym c.ok.ensures.value ∙ c.in_err-ok.was))

pub returns : goal.returns
returns c =
    c.ok-2.ensures.value
    ∙ value_of-parse c.parse.result c.in_ok-ok.field-0.now c.args.digits.now
    (text_is _ _ c.from_utf8.result c.in_ok-ok.field-0 c.args.digits.now c.from_utf8.ensures.cases (sym c.in_ok-ok.ensures.value))
    c.requires c.parse.ensures.value.0
