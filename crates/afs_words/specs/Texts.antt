-- The texts of the faults of words.
use Rattle.std.specs.Prelude.{ℕ, List, ◌++◌, codes}
use Rattle.afs_words.specs.Tables.{switch_name}
use Rattle.afs_words.specs.declared.faults.WordsFault.{WordsFault}
use Rattle.afs_words.specs.declared.faults.WordsFault.TheVariants.{UnknownOperation, AmbiguousOperation, UnknownSwitch, AmbiguousSwitch, MissingValue, MissingSwitch, Repeated, Extra, BadValue, NoMemory}

-- what a command writes behind its own name, `: ` and before the end of the line
abbrev pub fault_text : WordsFault → List ℕ
fault_text (UnknownOperation word) = codes "unknown operation '" ++ word ++ codes "'"
fault_text (AmbiguousOperation word) = codes "ambiguous operation '" ++ word ++ codes "'"
fault_text (UnknownSwitch word) = codes "unknown switch '" ++ word ++ codes "'"
fault_text (AmbiguousSwitch word) = codes "ambiguous switch '" ++ word ++ codes "'"
fault_text (MissingValue switch) = codes "missing value for -" ++ switch_name switch
fault_text (MissingSwitch switch) = codes "missing -" ++ switch_name switch
fault_text (Repeated switch) = codes "-" ++ switch_name switch ++ codes " given twice"
fault_text (Extra word) = codes "extra value '" ++ word ++ codes "'"
fault_text (BadValue word switch) = codes "bad value '" ++ word ++ codes "' for -" ++ switch_name switch
fault_text NoMemory = codes "out of memory"
