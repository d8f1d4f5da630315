-- The commands of a text, one a line.
use Rattle.std.specs.Prelude.{◌≡◌, ◌≢◌, ℕ, ◌+◌, ◌⊎◌, nat_lt, Bool, true, false, List, [], ◌∷◌, ◌++◌, length, codes, map, Option, Some, None, String, string_bytes}
use Rattle.std.specs.declared.alloc.Global.{Global}
use Rattle.std.specs.Fmt.{decimal}
use Rattle.disk_base.specs.Count.{HasCause}
use Rattle.cell_script.specs.Lines.{lines_of}
use Rattle.afs_words.specs.declared.tables.Tool.{Tool}
use Rattle.tool_base.specs.Ending.{Appended}
use Rattle.tool_help.specs.Sentences.{tool_name}
use Rattle.client_plans.specs.Plans.{Plans}
use Rattle.client_plans.specs.declared.plans.Plan.{Plan}
use Rattle.command_lines.specs.Cuts.{HasNoText, is_passed_over, words_of}
use Rattle.command_lines.specs.declared.lines.TheConstants.{MAX_COMMAND}
use Rattle.client_shell.specs.Runs.{PlanDone, RanShort, Refused}
use Rattle.client_shell.specs.Standing.{Begun, Standing}
use Rattle.client_shell.specs.declared.refusals.TheConstants.{LONG_LINE, OPEN_QUOTE, NO_TEXT, NO_READ}

-- the words of a line, typed behind the name of the command, plan this; the hosts are those of the file where it names none
pub record LinePlans (tool : Tool) (hosts line : List ℕ) (plan : Plan) : Type 0 where
  pub words : List (String Global)
  pub cut : words_of line ≡ Some (map string_bytes words)
  pub planned : Plans string_bytes tool words (Some hosts) [] plan

-- the line is no command, and is refused; or what it plans is done; or memory ran out before
abbrev pub WordsDone : Begun → Tool → List ℕ → List ℕ → Standing → Standing → ℕ → Type 0
WordsDone begun tool hosts line before after status =
    ((words_of line ≡ None) × Refused tool OPEN_QUOTE.now before after status)
    ⊎ (HasNoText (words_of line) × Refused tool NO_TEXT.now before after status)
    ⊎ ((plan : Plan) × LinePlans tool hosts line plan × PlanDone begun tool plan before after status)
    ⊎ RanShort before after status

abbrev pub DoneUnless : Begun → Bool → Tool → List ℕ → List ℕ → Standing → Standing → ℕ → Type 0
DoneUnless begun true tool hosts line before after status = (status ≡ 0) × (after ≡ before)
DoneUnless begun false tool hosts line before after status = WordsDone begun tool hosts line before after status

-- a line of blanks alone, or with `#` in front, asks and says nothing
abbrev pub LineWithin : Begun → Tool → List ℕ → List ℕ → Standing → Standing → ℕ → Type 0
LineWithin begun tool hosts line before after status = DoneUnless begun (is_passed_over line) tool hosts line before after status

abbrev pub DoneUnlessLong : Begun → Bool → Tool → List ℕ → List ℕ → Standing → Standing → ℕ → Type 0
DoneUnlessLong begun true tool hosts line before after status = Refused tool LONG_LINE.now before after status
DoneUnlessLong begun false tool hosts line before after status = LineWithin begun tool hosts line before after status

-- what comes of a line
abbrev pub LineDone : Begun → Tool → List ℕ → List ℕ → Standing → Standing → ℕ → Type 0
LineDone begun tool hosts line before after status =
    DoneUnlessLong begun (nat_lt MAX_COMMAND (length line)) tool hosts line before after status

-- lines one behind the other, each of which ended with 0
abbrev pub LinesDone : Begun → Tool → List ℕ → List (List ℕ) → Standing → Standing → Type 0
LinesDone begun tool hosts [] before after = after ≡ before
LinesDone begun tool hosts (line ∷ lines) before after =
    (between : Standing) × LineDone begun tool hosts line before between 0 × LinesDone begun tool hosts lines between after

-- the line that names the line that was the last
abbrev pub line_named : Tool → (number status : ℕ) → List ℕ
line_named tool number status = tool_name tool ++ codes ": line " ++ decimal number ++ codes " ended with " ++ decimal status ++ codes "\n"

-- a line is named, and its status is that of all; or a sink failed or memory ran out over it
abbrev pub Named : Tool → (number own : ℕ) → Option (List ℕ) → Option (List ℕ) → ℕ → Type 0
Named tool number own before after status =
    ((status ≡ own) × Appended before after (line_named tool number own)) ⊎ (status ≡ 4) ⊎ (status ≡ 5)

-- a line that ended with a status other than 0 was named
pub record IsNamed (tool : Tool) (number own : ℕ) (before after : Standing) (status : ℕ) : Type 0 where
  pub bad : own ≢ 0
  pub unasked : after.kept ≡ before.kept
  pub untold : after.out ≡ before.out
  pub named : Named tool number own before.err after.err status
  pub cause : HasCause before.faults after.faults ((own ≢ 4) × (status ≡ 4))

-- The text was read to its end.
pub record AllDone (rest : List ℕ) (left : Option (List ℕ)) (before after : Standing) (status : ℕ) : Type 0 where
  pub no_more : rest ≡ []
  pub read : left ≡ Some []
  pub well : status ≡ 0
  pub still : after ≡ before

-- The first of these lines did not end with 0.
pub record LineFails (begun : Begun) (tool : Tool) (hosts : List ℕ) (number : ℕ) (lines : List (List ℕ)) (before after : Standing)
    (status : ℕ) : Type 0 where
  pub line : List ℕ
  pub later : List (List ℕ)
  pub first : lines ≡ line ∷ later
  pub between : Standing
  pub own : ℕ
  pub done : LineDone begun tool hosts line before between own
  pub named : IsNamed tool number own between after status

-- The source failed in the next line.
pub record ReadFails (tool : Tool) (number : ℕ) (failed : Type 0) (before after : Standing) (status : ℕ) : Type 0 where
  pub fault : failed
  pub between : Standing
  pub own : ℕ
  pub refused : Refused tool NO_READ.now before between own
  pub named : IsNamed tool number own between after status

-- how the lines of a text ended, of which this is the rest
abbrev pub Ends : Begun → Tool → List ℕ → ℕ → Type 0 → List ℕ → Option (List ℕ) → Standing → Standing → ℕ → Type 0
Ends begun tool hosts number failed rest left before after status =
    AllDone rest left before after status
    ⊎ LineFails begun tool hosts number (lines_of rest) before after status
    ⊎ ReadFails tool number failed before after status
    ⊎ RanShort before after status

-- The commands of a text were run one behind the other, in the order of its lines, up to the first that did not end with 0.
pub record SourceRan (begun : Begun) (tool : Tool) (hosts text : List ℕ) (failed : Type 0) (left : Option (List ℕ))
    (before after : Standing) (status : ℕ) : Type 0 where
  pub lines : List (List ℕ)
  pub rest : List ℕ
  pub text_is : lines_of text ≡ lines ++ lines_of rest
  pub between : Standing
  pub ran : LinesDone begun tool hosts lines before between
  pub ends : Ends begun tool hosts (length lines + 1) failed rest left between after status
