-- What a run stands for that is over the database of its cell.
use Rattle.std.specs.Prelude.{◌≡◌, ℕ, false, Option, Some, None, IfSome, Result, Ok, Err, List, []}
use Rattle.disk_base.specs.declared.disks.Disk.{Ghosts}
use Rattle.cell_script.specs.Meaning.{line_of}
use Rattle.cell_script.specs.declared.lines.Kind.{Kind}
use Rattle.cell_script.specs.declared.lines.Kind.TheVariants.{Location, Protection}
use Rattle.cell_script.specs.declared.lines.Line.{Line}
use Rattle.cell_script.specs.declared.lines.Line.TheVariants as line
use Rattle.cell_script.specs.declared.lines.Why.{Why}
use Rattle.cell_runs.specs.Script.{Cell, Told, kind_of_cell}
use Rattle.cell_sites.specs.Disks.{Held}
use Rattle.cell_sites.specs.declared.cells.OpenCell.{OpenCell}
use Rattle.script_promises.specs.Databases.{databases, standings}
use Rattle.ubik_cell.specs.declared.runs.ScriptRun.{ScriptRun}
use Rattle.ubik_cell.specs.declared.runs.ScriptRun.TheVariants as over
use Rattle.ubik_cell.specs.declared.scripts.CellRun.{CellRun}
use Rattle.ubik_cell.specs.declared.scripts.RunEnd.{RunEnd}
use Rattle.ubik_cell.specs.Lines.{AreHeld, IsAt, IsSoundRun, ToldLine, only, run_disks, run_helds, sites_in}

-- the kind of the cell that a line opens, if it opens one
abbrev pub kind_in : Result Line Why → Option Kind
kind_in (Ok (line.Cell servers clock k)) = Some k
kind_in _ = None

-- the same where no cell stands yet, by the bytes of the line
abbrev pub kind_opened : {D V : Type 0} {g : Ghosts D} → Option (OpenCell D V g) → List ℕ → Option Kind
kind_opened None bytes = kind_in (line_of bytes)
kind_opened (Some running) bytes = None

-- the cell, if one stands, is of this kind
abbrev pub IsOfKind : Kind → Option Cell → Type 0
IsOfKind k None = Unit {0}
IsOfKind k (Some c) = kind_of_cell c ≡ k

-- ---- parts of a run, over whichever database

abbrev pub script_lines : {D : Type 0} {g : Ghosts D} → ScriptRun D g → ℕ
script_lines (over.Protection run) = run.lines
script_lines (over.Location run) = run.lines

abbrev pub script_sites : {D : Type 0} {g : Ghosts D} → ScriptRun D g → ℕ
script_sites (over.Protection run) = sites_in run.cell
script_sites (over.Location run) = sites_in run.cell

abbrev pub script_spare : {D : Type 0} {g : Ghosts D} → ScriptRun D g → List D
script_spare (over.Protection run) = run.spare.items
script_spare (over.Location run) = run.spare.items

abbrev pub script_disks : {D : Type 0} {g : Ghosts D} → ScriptRun D g → List D
script_disks (over.Protection run) = run_disks run
script_disks (over.Location run) = run_disks run

abbrev pub script_helds : {D : Type 0} (g : Ghosts D) → ScriptRun D g → List Held
script_helds g (over.Protection run) = run_helds g run
script_helds g (over.Location run) = run_helds g run

abbrev pub IsSoundScript : {D : Type 0} (g : Ghosts D) → ScriptRun D g → Type 0
IsSoundScript g (over.Protection run) = IsSoundRun g (standings Protection) run
IsSoundScript g (over.Location run) = IsSoundRun g (standings Location) run

-- no cell stands, and no disk is left
abbrev pub IsEmptyRun : {D V : Type 0} {g : Ghosts D} → CellRun D V g → Type 0
IsEmptyRun run = (run.cell ≡ None) × (run.spare.items ≡ [])

abbrev pub IsEmptyScript : {D : Type 0} {g : Ghosts D} → ScriptRun D g → Type 0
IsEmptyScript (over.Protection run) = IsEmptyRun run
IsEmptyScript (over.Location run) = IsEmptyRun run

-- a line opens no cell, or one of the kind that the run is over
abbrev pub OpensItsKind : {D : Type 0} {g : Ghosts D} → List ℕ → ScriptRun D g → Type 0
OpensItsKind bytes (over.Protection run) = IfSome (kind_opened run.cell bytes) (λ k. k ≡ Protection)
OpensItsKind bytes (over.Location run) = IfSome (kind_opened run.cell bytes) (λ k. k ≡ Location)

abbrev pub script_kind_opened : {D : Type 0} {g : Ghosts D} → ScriptRun D g → List ℕ → Option Kind
script_kind_opened (over.Protection run) bytes = kind_opened run.cell bytes
script_kind_opened (over.Location run) bytes = kind_opened run.cell bytes

abbrev pub HasNoCell : {D : Type 0} {g : Ghosts D} → ScriptRun D g → Type 0
HasNoCell (over.Protection run) = run.cell ≡ None
HasNoCell (over.Location run) = run.cell ≡ None

-- ---- where a run stands

-- a run over the database of this kind stands where the lines that were told left it
pub record IsAtKind {D V : Type 0} (g : Ghosts D) (k : Kind) (given : List ℕ) (run : CellRun D V g) (t : Told) : Type 0 where
  pub at : IsAt g (only (databases k)) given run t
  pub kind : IsOfKind k t.stage.cell

abbrev pub StandsAt : {D : Type 0} (g : Ghosts D) → (given : List ℕ) → ScriptRun D g → Told → Type 0
StandsAt g given (over.Protection run) t = IsAtKind g Protection given run t
StandsAt g given (over.Location run) t = IsAtKind g Location given run t

-- what a line leaves: the run goes on from there, or its disks hold it
abbrev pub ScriptLeaves : {D : Type 0} (g : Ghosts D) → (given : List ℕ) → Result (Unit {0}) RunEnd → ScriptRun D g → Told → Type 0
ScriptLeaves g given (Ok done) run t = StandsAt g given run t
ScriptLeaves g given (Err e) run t = AreHeld databases given false t (script_helds g run)

abbrev pub ScriptTold : {D : Type 0} (g : Ghosts D) → (given line : List ℕ) → Told → Result (Unit {0}) RunEnd → (after : ScriptRun D g)
    → (text_before text_after : List ℕ) → Type 0
ScriptTold g given line t result after text_before text_after =
    ToldLine databases line t result (ScriptLeaves g given result after) (script_sites after) text_before text_after
