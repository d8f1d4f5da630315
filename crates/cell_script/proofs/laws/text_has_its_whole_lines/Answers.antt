use Rattle.cell_script.specs.LineLaws.{whole_lines-text_of}
use Rattle.cell_script.proofs.laws.text_has_its_whole_lines.Goals as goal

pub returns : goal.returns
returns c = whole_lines-text_of
