use Rattle.cell_script.specs.LineLaws.{lines_of-text_of}
use Rattle.cell_script.proofs.laws.text_has_its_lines.Goals as goal

pub returns : goal.returns
returns c = lines_of-text_of
