-- What a run of a script has read and written when it ends.
use Rattle.std.specs.Prelude.{◌≡◌, ◌≤◌, ℕ, Bool, true, false, Option, Some, None, All, List, [], ◌∷◌, ◌++◌, map, length, take}
use Rattle.cell_script.specs.LineLaws.{text_of}
use Rattle.cell_script.specs.Lines.{HasNoLf, lines_of, whole_lines}
use Rattle.cell_runs.specs.declared.endings.Ending.{Ending}
use Rattle.cell_runs.specs.declared.endings.Ending.TheVariants.{Refused, Limit}
use Rattle.cell_runs.specs.Script.{LineRead, ScriptEnd, sound_choices, told}
use Rattle.cell_runs.specs.ScriptDatabase.{Databases}
use Rattle.ubik_cell.specs.declared.cells.CellKind.{CellKind}
use Rattle.ubik_cell.specs.declared.cells.CellKind.TheVariants as kind

-- the lines of these readings
abbrev pub read_lines : List LineRead → List (List ℕ)
read_lines readings = map (λ r. r.line) readings

-- the bytes that were written
abbrev pub Wrote : List ℕ → Option (List ℕ) → List ℕ → Type 0
Wrote before after bytes = after ≡ Some (before ++ bytes)

-- a part of a text was read, and this is left
pub record ReadSome (text : List ℕ) (left : Option (List ℕ)) : Type 0 where
  pub read : List ℕ
  pub rest : List ℕ
  pub split : text ≡ read ++ rest
  pub remains : left ≡ Some rest

-- the lines of the whole text, none of which ends the script, and their trace
pub record RanToTheEnd (dbs : Databases) (readings : List LineRead) (text : List ℕ) (left : Option (List ℕ)) (before : List ℕ)
    (after : Option (List ℕ)) : Type 0 where
  pub all : read_lines readings ≡ lines_of text
  pub end : left ≡ Some []
  pub good : (told dbs readings).ended ≡ None
  pub wrote : Wrote before after (told dbs readings).text

abbrev pub ends_at : ℕ → Ending → ScriptEnd
ends_at line ending = record { line = line; ending = ending }

-- The lines up to the one at which the script ends, and their trace, whose last line tells the end. The source was read up to the
-- end of that line, or 1025 bytes of it.
pub record RanUntil (line : ℕ) (ending : Ending) (dbs : Databases) (readings : List LineRead) (text : List ℕ) (left : Option (List ℕ))
    (before : List ℕ) (after : Option (List ℕ)) : Type 0 where
  pub earlier : List LineRead
  pub last : LineRead
  pub later : List (List ℕ)
  pub is : readings ≡ earlier ++ last ∷ []
  pub all : lines_of text ≡ read_lines earlier ++ last.line ∷ later
  pub part : ReadSome text left
  pub so_far : lines_of part.read ≡ read_lines earlier ++ take 1025 last.line ∷ []
  pub good : (told dbs earlier).ended ≡ None
  pub ended : (told dbs readings).ended ≡ Some (ends_at line ending)
  pub wrote : Wrote before after (told dbs readings).text

-- the lines before a fault of the source, which are those that an LF ends in what was read; none of them ends the script. And their
-- trace.
pub record RanToFault (dbs : Databases) (readings : List LineRead) (text : List ℕ) (left : Option (List ℕ)) (before : List ℕ)
    (after : Option (List ℕ)) : Type 0 where
  pub part : ReadSome text left
  pub all : read_lines readings ≡ whole_lines part.read
  pub good : (told dbs readings).ended ≡ None
  pub wrote : Wrote before after (told dbs readings).text

-- all lines that were read, the trace of those before the last, and a part of what that one tells; the sink failed there
pub record RanInPart (dbs : Databases) (readings : List LineRead) (text : List ℕ) (left : Option (List ℕ)) (before : List ℕ)
    (after : Option (List ℕ)) : Type 0 where
  pub earlier : List LineRead
  pub last : LineRead
  pub is : readings ≡ earlier ++ last ∷ []
  pub part : ReadSome text left
  pub all : lines_of part.read ≡ read_lines earlier ++ take 1025 last.line ∷ []
  pub good : (told dbs earlier).ended ≡ None
  pub front : List ℕ
  pub back : List ℕ
  pub trace : (told dbs readings).text ≡ (told dbs earlier).text ++ front ++ back
  pub wrote : Wrote before after ((told dbs earlier).text ++ front)

-- the trace of the lines before the one in which memory ran out, if in any; nothing was written of that line, which may have been
-- run, or in part
pub record RanShort (dbs : Databases) (readings : List LineRead) (text : List ℕ) (left : Option (List ℕ)) (before : List ℕ)
    (after : Option (List ℕ)) : Type 0 where
  pub part : ReadSome text left
  pub more : List (List ℕ)
  pub all : lines_of part.read ≡ read_lines readings ++ more
  pub one : length more ≤ 1
  pub good : (told dbs readings).ended ≡ None
  pub wrote : Wrote before after (told dbs readings).text

-- nothing was read or written
pub record RanNothing (readings : List LineRead) (text : List ℕ) (left : Option (List ℕ)) (before : List ℕ) (after : Option
    (List ℕ)) : Type 0 where
  pub none : readings ≡ []
  pub unread : left ≡ Some text
  pub unwritten : after ≡ Some before

-- what was read and written by a run of these lines that ended so
abbrev pub Runs : CellKind → Databases → List LineRead → List ℕ → Option (List ℕ) → List ℕ → Option (List ℕ) → Type 0
Runs kind.Done dbs readings text left before after = RanToTheEnd dbs readings text left before after
Runs (kind.ScriptRefused line why) dbs readings text left before after = RanUntil line (Refused why) dbs readings text left before after
Runs kind.ReadFault dbs readings text left before after = RanToFault dbs readings text left before after
Runs kind.WriteFault dbs readings text left before after = RanInPart dbs readings text left before after
Runs (kind.Limit line which) dbs readings text left before after = RanUntil line (Limit which) dbs readings text left before after
Runs kind.NoMemory dbs readings text left before after = RanShort dbs readings text left before after
Runs (kind.Words place) dbs readings text left before after = RanNothing readings text left before after

-- the exit status of an end
abbrev pub status_of : CellKind → ℕ
status_of kind.Done = 0
status_of (kind.ScriptRefused line why) = 1
status_of kind.ReadFault = 2
status_of kind.WriteFault = 3
status_of (kind.Limit line which) = 4
status_of kind.NoMemory = 5
status_of (kind.Words place) = 6

-- how a script ends that ends at this line
abbrev pub kind_at : ℕ → Ending → CellKind
kind_at line (Refused why) = kind.ScriptRefused line why
kind_at line (Limit which) = kind.Limit line which

-- lines at which no disk fails
abbrev pub sound_lines : List (List ℕ) → List LineRead
sound_lines lines = map (λ l. record { line = l; choices = sound_choices }) lines

-- the script was run to its end, or memory ran out
abbrev pub IsDoneOrShort : CellKind → Type 0
IsDoneOrShort kind.Done = Unit {0}
IsDoneOrShort kind.NoMemory = Unit {0}
IsDoneOrShort _ = ⊥

-- a script without a line that ends it, where no disk fails
abbrev pub IsInside : Databases → List ℕ → Type 0
IsInside dbs text = (told dbs (sound_lines (lines_of text))).ended ≡ None

-- so far these lines of a text were read, each with its LF; or all of the text, whose end was met
abbrev pub IsConsumed : Bool → List ℕ → List ℕ → List (List ℕ) → Type 0
IsConsumed false text left lines = (text ≡ text_of lines ++ left) × All HasNoLf lines
IsConsumed true text left lines = (left ≡ []) × (lines_of text ≡ lines)
