use Rattle.std.proofs.Common.{Result, IfOk, sym, subst}
use Rattle.cell_script.specs.Meaning.{HasBounds}
use Rattle.cell_script.specs.declared.lines.Line.{Line}
use Rattle.cell_script.specs.declared.lines.Why.{Why}
use Rattle.cell_script.proofs.Bounds.{whole_bounds}
use Rattle.cell_script.proofs.lines.line_meaning.Goals as goal

pub returns-in-Some-clause-bounds : goal.returns-in-Some-clause-bounds
returns-in-Some-clause-bounds c =
    let P : Result Line Why → Type 0 = λ o. IfOk o HasBounds in
    subst P (sym c.whole_line.ensures) (whole_bounds c.in-Some.words)
