use Rattle.std.proofs.Common.{◌≡◌, false, rules, refl}
use Rattle.std.specs.Prelude.{codes}
use Rattle.std.specs.Str.{bytes_eq}
use Rattle.cell_script.proofs.lines.line_of_three.Goals as goal

pub returns-in_default : goal.returns-in_default
returns-in_default c =
    let no_cell : bytes_eq c.args.first.now (codes "cell") ≡ false = search rules in
    let no_stop : bytes_eq c.args.first.now (codes "stop") ≡ false = search rules in
    rw (no_cell, no_stop) refl
