-- What a run of a script's lines stands for.
use Rattle.std.specs.Prelude.{◌≡◌, ◌⊎◌, ◌+◌, ◌*◌, ◌≤◌, ℕ, Bool, true, false, Option, Some, None, IsSomeAnd, Result, Ok, Err, All, List, [], ◌∷◌, ◌++◌, length, take, drop}
use Rattle.disk_base.specs.declared.disks.Disk.{Ghosts}
use Rattle.disk_base.specs.Crash.{IsSettled}
use Rattle.disk_base.specs.Files.{no_files}
use Rattle.disk_base.specs.Stops.DiskStop.{Unarmed}
use Rattle.ubik_types.specs.declared.limits.TheConstants.{MAXSERVERS}
use Rattle.cell_model.specs.Durable.{no_database}
use Rattle.db_image.specs.Database.{Database}
use Rattle.db_image.specs.Standing.{Standing}
use Rattle.cell_script.specs.declared.lines.TheConstants.{MAX_CLOCK, MAX_TICK}
use Rattle.cell_runs.specs.declared.endings.Ending.{Ending}
use Rattle.cell_runs.specs.declared.limits.TheConstants.{MAX_LINES}
use Rattle.cell_runs.specs.Script.{Cell, Choices, IsWhole, Line_run, ScriptEnd, Stage, Told, kind_of_cell, line_result, servers_of, text_in, told_with}
use Rattle.cell_runs.specs.ScriptDatabase.{ScriptDatabase, Databases}
use Rattle.cell_runs.specs.Trace.{TraceItem}
use Rattle.cell_script.specs.declared.lines.Why.{Why}
use Rattle.cell_sites.specs.declared.cells.OpenCell.{OpenCell}
use Rattle.cell_sites.specs.Counts.{HoldRun, OpensFirst}
use Rattle.cell_sites.specs.Disks.{Held, all_held, AreCauses}
use Rattle.cell_sites.specs.Opened.{counts_of}
use Rattle.cell_sites.specs.Sites.{IsModelledBy, disks_of, helds}
use Rattle.cell_sites.specs.Sound.{Bounds, IsSound}
use Rattle.ubik_node.specs.Disk.{StandsAs}
use Rattle.ubik_cell.specs.declared.scripts.CellRun.{CellRun}
use Rattle.ubik_cell.specs.declared.scripts.RunEnd.{RunEnd}
use Rattle.ubik_cell.specs.declared.scripts.RunEnd.TheVariants.{Ended}

-- one database, of whatever kind a cell is
abbrev pub only : ScriptDatabase → Databases
only db kind = db

-- the latest clock of a cell after so many lines
abbrev pub clock_bound : ℕ → ℕ
clock_bound lines = MAX_CLOCK + MAX_TICK * lines

-- what clocks and the ids of calls are at most after so many lines
abbrev pub bounds_after : (lines asks : ℕ) → Bounds
bounds_after lines asks = record { clock = clock_bound lines; asks = asks }

-- a cell stands, and is sound; or none stands, and no call was asked
abbrev pub CellIsSound : {D V : Type 0} (g : Ghosts D) → Standing → Bounds → Option (OpenCell D V g) → Type 0
CellIsSound g standing bounds None = bounds.asks ≡ 0
CellIsSound g standing bounds (Some running) = IsSound g standing.database bounds running

abbrev pub sites_in : {D V : Type 0} {g : Ghosts D} → Option (OpenCell D V g) → ℕ
sites_in None = 0
sites_in (Some running) = length running.sites.items

-- A run that was sound after so many lines: its cell is sound, the disks that no cell has are empty, with nothing pending, and not to
-- stop, there are 20 in all, no more calls were asked than there were lines, and these are within their limit.
pub record IsSoundBy {D V : Type 0} (g : Ghosts D) (standing : Standing) (lines : ℕ) (run : CellRun D V g) : Type 0 where
  pub cell : CellIsSound g standing (bounds_after lines run.asks) run.cell
  pub spare : All (λ disk. g.files disk ≡ Some no_files) run.spare.items
  pub settled : All (λ disk. IsSettled (g.files disk) (g.may_leave disk)) run.spare.items
  pub unarmed : All (λ disk. g.stop disk ≡ Unarmed) run.spare.items
  pub disks : sites_in run.cell + length run.spare.items ≡ MAXSERVERS
  pub asks : run.asks ≤ lines
  pub few : lines ≤ MAX_LINES

-- a run between two lines
abbrev pub IsSoundRun : {D V : Type 0} (g : Ghosts D) → Standing → CellRun D V g → Type 0
IsSoundRun g standing run = IsSoundBy g standing run.lines run

-- the database of a cell
abbrev pub database_in : Databases → Cell → Database
database_in dbs c = (dbs (kind_of_cell c)).database

-- The cell that stands is that of the stage. `given` has the counts of changing calls of all disks before the script.
abbrev pub CellStandsFor : {D V : Type 0} (g : Ghosts D) → Databases → List ℕ → Option (OpenCell D V g) → Option Cell → Type 0
CellStandsFor g dbs given None None = Unit {0}
CellStandsFor g dbs given (Some running) (Some c) =
    IsModelledBy g (database_in dbs c) (take (length running.sites.items) given) running c
CellStandsFor g dbs given _ _ = ⊥

-- the disks of a run: those of the cell in their order, and then the others
abbrev pub cell_disks : {D V : Type 0} {g : Ghosts D} → Option (OpenCell D V g) → List D
cell_disks None = []
cell_disks (Some running) = disks_of running

abbrev pub run_disks : {D V : Type 0} {g : Ghosts D} → CellRun D V g → List D
run_disks run = cell_disks run.cell ++ run.spare.items

-- what they read as
abbrev pub cell_helds : {D V : Type 0} (g : Ghosts D) → Option (OpenCell D V g) → List Held
cell_helds g None = []
cell_helds g (Some running) = helds g running

abbrev pub run_helds : {D V : Type 0} (g : Ghosts D) → CellRun D V g → List Held
run_helds g run = cell_helds g run.cell ++ all_held g run.spare.items

-- each disk of the cell failed at least as often as is told of its server; before a cell stands nothing is told
abbrev pub HasCauses : {D V : Type 0} (g : Ghosts D) → Option (OpenCell D V g) → List TraceItem → Type 0
HasCauses g None items = items ≡ []
HasCauses g (Some running) items = AreCauses 0 items (helds g running)

-- a run stands at a stage, some lines before it
pub record IsNear {D V : Type 0} (g : Ghosts D) (dbs : Databases) (given : List ℕ) (ahead : ℕ) (run : CellRun D V g)
    (st : Stage) : Type 0 where
  pub lines : st.lines ≡ run.lines + ahead
  pub asks : st.asks ≡ run.asks
  pub cell : CellStandsFor g dbs given run.cell st.cell
  pub spare : counts_of g run.spare.items ≡ drop (sites_in run.cell) given

-- a run stands where the lines that were told left it
pub record IsAt {D V : Type 0} (g : Ghosts D) (dbs : Databases) (given : List ℕ) (run : CellRun D V g) (t : Told) : Type 0 where
  pub stage : IsNear g dbs given 0 run t.stage
  pub causes : HasCauses g run.cell t.items

-- a disk stands for no database, and made at most the changing calls of an opening over empty files
pub record IsUnwritten (before : ℕ) (disk : Held) : Type 0 where
  pub stands : IsSomeAnd disk.files (StandsAs no_database)
  pub rise : ℕ
  pub few : OpensFirst true rise
  pub steps : disk.steps ≡ before + rise

-- so each of these, whose counts were these
abbrev pub AreUnwritten : List ℕ → List Held → Type 0
AreUnwritten [] [] = Unit {0}
AreUnwritten (before ∷ given) (disk ∷ disks) = IsUnwritten before disk × AreUnwritten given disks
AreUnwritten _ _ = ⊥

-- The disks hold the run of the cell; those behind its servers stand for no database, as all do before a cell stands. Where memory ran out
-- in an opening, that may have made calls too (`short`).
abbrev pub HoldStage : Databases → List ℕ → (short : Bool) → Option Cell → List Held → Type 0
HoldStage dbs given short None disks = AreUnwritten given disks
HoldStage dbs given short (Some c) disks =
    let n = length c.run.world.sites in
    HoldRun (database_in dbs c) (take n given) short c (take n disks) × AreUnwritten (drop n given) (drop n disks)

-- the same of the disks at an end
abbrev pub HeldCauses : Option Cell → List TraceItem → List Held → Type 0
HeldCauses None items disks = items ≡ []
HeldCauses (Some c) items disks = AreCauses 0 items (take (length c.run.world.sites) disks)

-- disks that hold what lines have left, of whose faults each has its cause
pub record AreHeld (dbs : Databases) (given : List ℕ) (short : Bool) (t : Told) (disks : List Held) : Type 0 where
  pub holds : HoldStage dbs given short t.stage.cell disks
  pub causes : HeldCauses t.stage.cell t.items disks

-- where the script ended in a line, if it did
abbrev pub ended_of : Told → Result (Unit {0}) RunEnd → Option ScriptEnd
ended_of t (Err (Ended ending)) = Some (record { line = t.stage.lines + 1; ending = ending })
ended_of t _ = None

-- what a line leaves: the run goes on from there, or its disks hold it
abbrev pub Leaves : {D V : Type 0} (g : Ghosts D) → Databases → List ℕ → Result (Unit {0}) RunEnd → CellRun D V g → Told → Type 0
Leaves g dbs given (Ok done) run t = IsAt g dbs given run t
Leaves g dbs given (Err e) run t = AreHeld dbs given false t (run_helds g run)

-- A line was run to its end with some choices, or ended the script: what is told of it was added to a text. This follows of what it left,
-- in a run with so many servers.
pub record ToldLine (dbs : Databases) (line : List ℕ) (t : Told) (result : Result (Unit {0}) RunEnd) (Follows : Told → Type 0) (sites : ℕ)
    (text_before text_after : List ℕ) : Type 0 where
  pub choices : Choices
  pub whole : IsWhole choices
  pub later : Told
  pub is : later ≡ told_with dbs t (line_result dbs t.stage (record { line = line; choices = choices }))
  pub ended : later.ended ≡ ended_of t result
  pub added : List ℕ
  pub told : text_after ≡ text_before ++ added
  pub text : later.text ≡ t.text ++ added
  pub leaves : Follows later
  pub servers : sites ≡ servers_of later.stage.cell

abbrev pub LineTold : {D V : Type 0} (g : Ghosts D) → Databases → (given line : List ℕ) → Told → Result (Unit {0}) RunEnd
    → (after : CellRun D V g)
    → (text_before text_after : List ℕ) → Type 0
LineTold g dbs given line t result after text_before text_after =
    ToldLine dbs line t result (Leaves g dbs given result after) (sites_in after.cell) text_before text_after

-- disks hold what a line leaves with some choices, of a line that was run perhaps in part
pub record HeldAfter (dbs : Databases) (given : List ℕ) (line : List ℕ) (t : Told) (disks : List Held) : Type 0 where
  pub choices : Choices
  pub held : AreHeld dbs given true (told_with dbs t (line_result dbs t.stage (record { line = line; choices = choices }))) disks

-- Memory ran out in a line: each fault that was told before it has its cause, and the disks hold what the lines before it left, or
-- what it left with some choices.
pub record ShortLine (dbs : Databases) (given : List ℕ) (line : List ℕ) (t : Told) (disks : List Held) : Type 0 where
  pub causes : HeldCauses t.stage.cell t.items disks
  pub held : HoldStage dbs given true t.stage.cell disks ⊎ HeldAfter dbs given line t disks

abbrev pub LineShort : {D V : Type 0} (g : Ghosts D) → Databases → (given line : List ℕ) → Told → (after : CellRun D V g) → Type 0
LineShort g dbs given line t after = ShortLine dbs given line t (run_helds g after)

-- A line was run to its end in a stage with some choices: it ended so, and what it told was added to a text. Each fault that was told has its cause.
pub record StageTold {D V : Type 0} (g : Ghosts D) {E : Type 0} (dbs : Databases) (given : List ℕ)
    (run : Choices → Result Line_run E) (ended : Option Ending) (before after : CellRun D V g)
    (text_before text_after : List ℕ) : Type 0 where
  pub choices : Choices
  pub whole : IsWhole choices
  pub ran : Line_run
  pub is : run choices ≡ Ok ran
  pub ends : ran.ending ≡ ended
  pub near : ended ≡ None → IsNear g dbs given 1 after ran.stage
  pub servers : sites_in after.cell ≡ servers_of ran.stage.cell
  pub holds : HoldStage dbs given false ran.stage.cell (run_helds g after)
  pub told : text_after ≡ text_before ++ text_in dbs ran.stage.cell ran.items
  pub causes : (items : List TraceItem) → HasCauses g before.cell items → HasCauses g after.cell (items ++ ran.items)
  pub held : (items : List TraceItem) → HasCauses g before.cell items
      → HeldCauses ran.stage.cell (items ++ ran.items) (run_helds g after)
  pub kept : (c : Option Cell) (items : List TraceItem) → CellStandsFor g dbs given before.cell c → HasCauses g before.cell items
      → HeldCauses c items (run_helds g after)

-- a line is refused for this reason, whatever its choices
abbrev pub IsRefusedLine : Why → (Choices → Result Line_run Why) → Type 0
IsRefusedLine why run = (choices : Choices) → run choices ≡ Err why

-- what a line in which memory ran out, perhaps half way, left on the disks, with some choices
pub record ShortAfter {D V : Type 0} (g : Ghosts D) {E : Type 0} (dbs : Databases) (given : List ℕ) (run : Choices → Result Line_run E)
    (before after : CellRun D V g) : Type 0 where
  pub choices : Choices
  pub ran : Line_run
  pub is : run choices ≡ Ok ran
  pub holds : HoldStage dbs given true ran.stage.cell (run_helds g after)
  pub causes : (items : List TraceItem) → HasCauses g before.cell items
      → HeldCauses ran.stage.cell (items ++ ran.items) (run_helds g after)

-- Memory ran out in a line: each fault that was told before it has its cause, and the disks hold what was before it, or what it left.
pub record StageShort {D V : Type 0} (g : Ghosts D) {E : Type 0} (dbs : Databases) (given : List ℕ) (run : Choices → Result Line_run E)
    (st : Stage) (before after : CellRun D V g) : Type 0 where
  pub causes : (items : List TraceItem) → HasCauses g before.cell items → HeldCauses st.cell items (run_helds g after)
  pub held : HoldStage dbs given true st.cell (run_helds g after) ⊎ ShortAfter g dbs given run before after
