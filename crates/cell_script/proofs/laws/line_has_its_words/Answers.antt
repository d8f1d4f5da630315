use Rattle.cell_script.proofs.WordLaws.{words_of-spaced}
use Rattle.cell_script.proofs.laws.line_has_its_words.Goals as goal

pub returns : goal.returns
returns c = words_of-spaced
