use Rattle.std.proofs.Common.{◌≡◌, false, None, rules, arith, refl}
use Rattle.std.specs.Prelude.{codes}
use Rattle.std.specs.Str.{bytes_eq}
use Rattle.std.proofs.lemmas.Slice.Eq.{text_from_reads}
use Rattle.cell_script.specs.Meaning.{line_of_server}
use Rattle.cell_script.proofs.Firsts.{other_word}
use Rattle.cell_script.proofs.lines.line_at_server.Goals as goal

pub returns-in_err-ok_or-in-beacon : goal.returns-in_err-ok_or-in-beacon
returns-in_err-ok_or-in-beacon c =
    let same : c.args.first.now ≡ codes "beacon" = text_from_reads _ _ (omega arith) (search rules) in rw same (search rules)

pub returns-in_ok-ok_or-in-beacon : goal.returns-in_ok-ok_or-in-beacon
returns-in_ok-ok_or-in-beacon c =
    let same : c.args.first.now ≡ codes "beacon" = text_from_reads _ _ (omega arith) (search rules) in rw same (search rules)

pub returns-in_err-ok_or-in-recover : goal.returns-in_err-ok_or-in-recover
returns-in_err-ok_or-in-recover c =
    let same : c.args.first.now ≡ codes "recover" = text_from_reads _ _ (omega arith) (search rules) in rw same (search rules)

pub returns-in_ok-ok_or-in-recover : goal.returns-in_ok-ok_or-in-recover
returns-in_ok-ok_or-in-recover c =
    let same : c.args.first.now ≡ codes "recover" = text_from_reads _ _ (omega arith) (search rules) in rw same (search rules)

pub returns-in_err-ok_or-in-dropall : goal.returns-in_err-ok_or-in-dropall
returns-in_err-ok_or-in-dropall c =
    let same : c.args.first.now ≡ codes "dropall" = text_from_reads _ _ (omega arith) (search rules) in rw same (search rules)

pub returns-in_ok-ok_or-in-dropall : goal.returns-in_ok-ok_or-in-dropall
returns-in_ok-ok_or-in-dropall c =
    let same : c.args.first.now ≡ codes "dropall" = text_from_reads _ _ (omega arith) (search rules) in rw same (search rules)

pub returns-in_err-ok_or-in-restart : goal.returns-in_err-ok_or-in-restart
returns-in_err-ok_or-in-restart c =
    let same : c.args.first.now ≡ codes "restart" = text_from_reads _ _ (omega arith) (search rules) in rw same (search rules)

pub returns-in_ok-ok_or-in-restart : goal.returns-in_ok-ok_or-in-restart
returns-in_ok-ok_or-in-restart c =
    let same : c.args.first.now ≡ codes "restart" = text_from_reads _ _ (omega arith) (search rules) in rw same (search rules)

pub returns-in_default : goal.returns-in_default
returns-in_default c =
    let first = c.args.first.now in
    let no_beacon : bytes_eq first (codes "beacon") ≡ false = other_word first (codes "beacon") (λ same. search rules) in
    let no_recover : bytes_eq first (codes "recover") ≡ false = other_word first (codes "recover") (λ same. search rules) in
    let no_dropall : bytes_eq first (codes "dropall") ≡ false = other_word first (codes "dropall") (λ same. search rules) in
    let no_crash : bytes_eq first (codes "crash") ≡ false = other_word first (codes "crash") (λ same. search rules) in
    let no_restart : bytes_eq first (codes "restart") ≡ false = other_word first (codes "restart") (λ same. search rules) in
    let no_show : bytes_eq first (codes "show") ≡ false = other_word first (codes "show") (λ same. search rules) in
    let none : line_of_server first ≡ None = rw (no_beacon, no_recover, no_dropall, no_crash, no_restart, no_show) refl in rw none refl
