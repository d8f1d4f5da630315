-- The lines of a text, and what the reading of one line leaves of the text.
use Rattle.std.specs.Prelude.{◌≡◌, ◌≢◌, ◌+◌, ◌<◌, ◌≤◌, ◌==◌, if◌then◌else◌, ℕ, Bool, true, false, List, [], ◌∷◌, ◌++◌, length, Option, Some}
use Rattle.std.specs.List.{All, onto_first}
use Rattle.cell_script.specs.declared.readers.TheConstants.{MAX_LINE}
use Rattle.cell_script.specs.declared.readers.LineEnd.{LineEnd}
use Rattle.cell_script.specs.declared.readers.LineEnd.TheVariants.{Line, TooLong, End, Failed}

-- no byte is the LF that ends a line
abbrev pub HasNoLf : List ℕ → Type 0
HasNoLf bytes = All (λ b. b ≢ 10) bytes

-- a line and its LF stand first in the text; or the text ended with the line, which is all of it and lacks the LF
abbrev pub IsFirstLine : Bool → List ℕ → List ℕ → List ℕ → Type 0
IsFirstLine false text line rest = text ≡ line ++ 10 ∷ rest
IsFirstLine true text line rest = (text ≡ line) × (rest ≡ []) × (0 < length line)

-- a line of no more bytes than the limit was read, and with it maybe the end of the text
pub record TakesLineWithin (limit : ℕ) (text : List ℕ) (after : Option (List ℕ)) (line : List ℕ) (ended : Bool) : Type 0 where
  pub rest : List ℕ
  pub no_lf : HasNoLf line
  pub bound : length line ≤ limit
  pub read : IsFirstLine ended text line rest
  pub left : after ≡ Some rest

-- the same of a line of a script
abbrev pub TakesLine : List ℕ → Option (List ℕ) → List ℕ → Bool → Type 0
TakesLine text after line ended = TakesLineWithin MAX_LINE text after line ended

-- a part of a line was read
pub record TakesPart (text : List ℕ) (after : Option (List ℕ)) : Type 0 where
  pub part : List ℕ
  pub rest : List ℕ
  pub no_lf : HasNoLf part
  pub read : text ≡ part ++ rest
  pub left : after ≡ Some rest

-- what the reading of a line within a limit, which ended so, took from a text, and whether that met the end of it: all of a
-- line, one byte more of it than the limit, nothing of the empty text, or no more bytes of a line than the limit
abbrev pub ReadsLine : ℕ → LineEnd → List ℕ → Option (List ℕ) → List ℕ → Bool → Type 0
ReadsLine limit Line text after line ended = TakesLineWithin limit text after line ended
ReadsLine limit TooLong text after line ended = (ended ≡ false) × (taken : TakesPart text after) × (length taken.part ≡ limit + 1)
ReadsLine limit End text after line ended = (ended ≡ true) × (text ≡ []) × (after ≡ Some [])
ReadsLine limit Failed text after line ended = (ended ≡ false) × (taken : TakesPart text after) × (length taken.part ≤ limit)

-- the lines of a text; the last may lack its LF
abbrev pub lines_of : List ℕ → List (List ℕ)
lines_of [] = []
lines_of (b ∷ bytes) = if b == 10 then [] ∷ lines_of bytes else onto_first b (lines_of bytes)

-- a byte put before the first line, where there is one
abbrev pub longer_first : ℕ → List (List ℕ) → List (List ℕ)
longer_first b [] = []
longer_first b (line ∷ lines) = (b ∷ line) ∷ lines

-- the lines of a text that an LF ends
abbrev pub whole_lines : List ℕ → List (List ℕ)
whole_lines [] = []
whole_lines (b ∷ bytes) = if b == 10 then [] ∷ whole_lines bytes else longer_first b (whole_lines bytes)
