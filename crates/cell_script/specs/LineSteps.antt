-- The reading of a line, byte by byte.
use Rattle.std.specs.Prelude.{◌≡◌, ◌≢◌, ◌<◌, ℕ, Bool, true, false, List, [], ◌∷◌, ◌++◌, length, Option, Some, None}
use Rattle.cell_script.specs.Lines.{HasNoLf}
use Rattle.cell_script.specs.declared.readers.LineEnd.{LineEnd}
use Rattle.cell_script.specs.declared.readers.LineEnd.TheVariants.{Line, TooLong, End, Failed}
use Rattle.cell_script.specs.declared.readers.Next.{Next}
use Rattle.cell_script.specs.declared.readers.Next.TheVariants as next

-- a byte that stood first in a text was taken
pub record TakesFirst (byte : ℕ) (text : List ℕ) (after : Option (List ℕ)) : Type 0 where
  pub rest : List ℕ
  pub read : text ≡ byte ∷ rest
  pub left : after ≡ Some rest

-- what the taking of a byte leaves of a text
abbrev pub TakesByte : Next → List ℕ → Option (List ℕ) → Type 0
TakesByte (next.Byte b) text after = TakesFirst b text after
TakesByte next.End text after = (text ≡ []) × (after ≡ Some [])
TakesByte next.Failed text after = after ≡ Some text

-- a byte other than LF was added to a line
pub record AddsByte (text : List ℕ) (after : Option (List ℕ)) (old new : List ℕ) : Type 0 where
  pub byte : ℕ
  pub no_lf : byte ≢ 10
  pub added : new ≡ old ++ byte ∷ []
  pub taken : TakesFirst byte text after

-- a byte other than LF was taken beyond a line that has as many bytes as the limit
pub record Overflows (limit : ℕ) (text : List ℕ) (after : Option (List ℕ)) (line : List ℕ) : Type 0 where
  pub byte : ℕ
  pub no_lf : byte ≢ 10
  pub full : length line ≡ limit
  pub taken : TakesFirst byte text after

-- an LF was taken, or the source ended behind a line that is not empty
abbrev pub EndsLine : Bool → List ℕ → Option (List ℕ) → List ℕ → Type 0
EndsLine false text after line = TakesFirst 10 text after
EndsLine true text after line = (text ≡ []) × (after ≡ Some []) × (0 < length line)

-- one step of the reading of a line within a limit, after which the source has ended or not
abbrev pub Extends : ℕ → Option LineEnd → List ℕ → Option (List ℕ) → List ℕ → List ℕ → Bool → Type 0
Extends limit None text after old new ended = AddsByte text after old new
Extends limit (Some Line) text after old new ended = (new ≡ old) × EndsLine ended text after old
Extends limit (Some TooLong) text after old new ended = (ended ≡ false) × Overflows limit text after old
Extends limit (Some End) text after old new ended = (ended ≡ true) × (old ≡ []) × (text ≡ []) × (after ≡ Some [])
Extends limit (Some Failed) text after old new ended = (ended ≡ false) × (after ≡ Some text)

-- a part of a line was read from a text
pub record HasRead (text : List ℕ) (after : Option (List ℕ)) (line : List ℕ) : Type 0 where
  pub rest : List ℕ
  pub no_lf : HasNoLf line
  pub read : text ≡ line ++ rest
  pub left : after ≡ Some rest
