use Rattle.std.proofs.Common.{◌≡◌, rules, arith, refl}
use Rattle.std.specs.Prelude.{codes}
use Rattle.std.proofs.lemmas.Slice.Eq.{text_from_reads}
use Rattle.cell_script.proofs.lines.line_of_none.Goals as goal

pub returns-in-deliverall : goal.returns-in-deliverall
returns-in-deliverall c =
    let same : c.args.first.now ≡ codes "deliverall" = text_from_reads _ _ (omega arith) (search rules) in rw same refl
