-- A database as scripts speak of it: what it makes of calls, and its calls and answers in words.
use Rattle.db_image.specs.CallWords.{CallWords}
use Rattle.db_image.specs.Database.{Database}
use Rattle.cell_script.specs.declared.lines.Kind.{Kind}

pub record ScriptDatabase : Type 0 where
  pub database : Database
  pub words : CallWords

abbrev pub script_database : Database → CallWords → ScriptDatabase
script_database database words = record { database = database; words = words }

-- the database of each kind
abbrev pub Databases : Type 0
Databases = Kind → ScriptDatabase
