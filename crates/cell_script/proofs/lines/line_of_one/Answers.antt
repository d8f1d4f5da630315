use Rattle.std.proofs.Common.{◌≡◌, false, None, rules, arith}
use Rattle.std.specs.Prelude.{codes}
use Rattle.std.specs.Str.{bytes_eq}
use Rattle.std.proofs.lemmas.Slice.Eq.{text_from_reads}
use Rattle.cell_script.specs.Meaning.{line_of_packet}
use Rattle.cell_script.proofs.Firsts.{other_one}
use Rattle.cell_script.proofs.lines.line_of_one.Goals as goal

pub returns-in_err-ok_or-in-tickall : goal.returns-in_err-ok_or-in-tickall
returns-in_err-ok_or-in-tickall c =
    let same : c.args.first.now ≡ codes "tickall" = text_from_reads _ _ (omega arith) (search rules) in rw same (search rules)

pub returns-in_ok-ok_or-in-tickall : goal.returns-in_ok-ok_or-in-tickall
returns-in_ok-ok_or-in-tickall c =
    let same : c.args.first.now ≡ codes "tickall" = text_from_reads _ _ (omega arith) (search rules) in rw same (search rules)

pub returns-in_err-ok_or-in-deliver : goal.returns-in_err-ok_or-in-deliver
returns-in_err-ok_or-in-deliver c =
    let same : c.args.first.now ≡ codes "deliver" = text_from_reads _ _ (omega arith) (search rules) in rw same (search rules)

pub returns-in_ok-ok_or-in-deliver : goal.returns-in_ok-ok_or-in-deliver
returns-in_ok-ok_or-in-deliver c =
    let same : c.args.first.now ≡ codes "deliver" = text_from_reads _ _ (omega arith) (search rules) in rw same (search rules)

pub returns-in_default : goal.returns-in_default
returns-in_default c =
    let no_tick : bytes_eq c.args.first.now (codes "tickall") ≡ false = search rules in
    let no_packet : line_of_packet c.args.first.now ≡ None = search rules in
    other_one c.args.first.now c.args.word.now no_tick no_packet c.line_at_server.ensures
