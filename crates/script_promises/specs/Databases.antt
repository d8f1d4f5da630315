-- The databases that scripts speak of, by the kind of a cell.
use Rattle.db_image.specs.CallWords.{CallWords}
use Rattle.db_image.specs.Standing.{Standing}
use Rattle.pt_database.specs.Service.{protection_standing}
use Rattle.pt_database.specs.Words.{protection_words}
use Rattle.vl_database.specs.Service.{vl_standing}
use Rattle.vl_database.specs.Words.{vl_words}
use Rattle.cell_script.specs.declared.lines.Kind.{Kind}
use Rattle.cell_script.specs.declared.lines.Kind.TheVariants.{Location, Protection}
use Rattle.cell_runs.specs.Script.{Cell, kind_of_cell}
use Rattle.cell_runs.specs.ScriptDatabase.{Databases, script_database}

-- what the calls of a cell of a kind mean, and make of images
abbrev pub standings : Kind → Standing
standings Protection = protection_standing
standings Location = vl_standing

-- the words of its calls
abbrev pub words_of_kind : Kind → CallWords
words_of_kind Protection = protection_words
words_of_kind Location = vl_words

abbrev pub databases : Databases
databases k = script_database (standings k).database (words_of_kind k)

-- the same of a cell
abbrev pub standing_of : Cell → Standing
standing_of c = standings (kind_of_cell c)
