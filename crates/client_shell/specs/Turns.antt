-- One line of a source of commands.
use Rattle.std.specs.Prelude.{◌≡◌, ◌≢◌, ℕ, Bool, true, false, List, [], Option, Some, None}
use Rattle.disk_base.specs.Count.{HasCause}
use Rattle.cell_script.specs.Lines.{TakesLineWithin}
use Rattle.afs_words.specs.declared.tables.Tool.{Tool}
use Rattle.command_lines.specs.declared.lines.TheConstants.{MAX_COMMAND}
use Rattle.client_shell.specs.Sources.{Ends, LineDone, Named}
use Rattle.client_shell.specs.Standing.{Begun, Standing}

-- the lines go on where a status is 0, and else its line is named
abbrev pub NamedUnlessWell : Tool → (number own : ℕ) → Option (List ℕ) → Option (List ℕ) → (faults faults_after : ℕ) → Option ℕ → Type 0
NamedUnlessWell tool number own before after faults faults_after None = (own ≡ 0) × (after ≡ before) × (faults_after ≡ faults)
NamedUnlessWell tool number own before after faults faults_after (Some status) =
    (own ≢ 0) × Named tool number own before after status × HasCause faults faults_after ((own ≢ 4) × (status ≡ 4))

-- a line was read, and its command ended with 0
pub record LineTaken (begun : Begun) (tool : Tool) (hosts : List ℕ) (was : Bool) (text : List ℕ) (left : Option (List ℕ)) (now : Bool)
    (before after : Standing) : Type 0 where
  pub going : was ≡ false
  pub line : List ℕ
  pub taken : TakesLineWithin MAX_COMMAND text left line now
  pub done : LineDone begun tool hosts line before after 0

-- The lines ended in what was left, which is nothing where the source had ended before.
abbrev pub TurnEnds : Begun → Tool → List ℕ → ℕ → Type 0 → Bool → List ℕ → Option (List ℕ) → Standing → Standing → ℕ → Type 0
TurnEnds begun tool hosts number failed false text left before after status =
    Ends begun tool hosts number failed text left before after status
TurnEnds begun tool hosts number failed true text left before after status =
    text ≡ [] → Ends begun tool hosts number failed text left before after status

-- what the reading and running of one line left
abbrev pub Turned : Begun → Tool → List ℕ → ℕ → Type 0 → Bool → List ℕ → Option (List ℕ) → Bool → Standing → Standing → Option ℕ → Type 0
Turned begun tool hosts number failed was text left now before after None = LineTaken begun tool hosts was text left now before after
Turned begun tool hosts number failed was text left now before after (Some status) =
    TurnEnds begun tool hosts number failed was text left before after status
