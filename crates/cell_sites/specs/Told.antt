-- What a line does in a running cell.
use Rattle.std.specs.Prelude.{◌≡◌, ◌⊎◌, ◌++◌, ℕ, true, false, Option, Some, None, Ok, Err, List}
use Rattle.disk_base.specs.declared.disks.Disk.{Ghosts}
use Rattle.db_image.specs.Database.{Database}
use Rattle.cell_script.specs.declared.lines.Why.{Why}
use Rattle.cell_runs.specs.declared.endings.Ending.{Ending}
use Rattle.cell_runs.specs.Script.{Cell, Cell_run, Choices, IsWhole, Run_or_why}
use Rattle.cell_runs.specs.ScriptDatabase.{ScriptDatabase}
use Rattle.cell_runs.specs.Trace.{trace}
use Rattle.cell_sites.specs.Counts.{HoldRun}
use Rattle.cell_sites.specs.Disks.{AreRises}
use Rattle.cell_sites.specs.Sites.{IsModelledBy, helds}
use Rattle.cell_sites.specs.declared.cells.OpenCell.{OpenCell}

-- where a script goes on, the cell stands for what the line left; where it ends in the line, its disks hold that
abbrev pub IsAfter : {D V : Type 0} (g : Ghosts D) → Database → List ℕ → Option Ending → OpenCell D V g → Cell → Type 0
IsAfter g db given None running c = IsModelledBy g db given running c
IsAfter g db given (Some ending) running c = HoldRun db given false c (helds g running)

-- A line was run to its end with some choices: it ended so, what it told was added to a text, and each fault that it told is one of that disk.
pub record CellTold {D V : Type 0} (g : Ghosts D) (db : ScriptDatabase) (given : List ℕ) (run : Choices → Run_or_why)
    (ended : Option Ending)
    (before after : OpenCell D V g) (text_before text_after : List ℕ) : Type 0 where
  pub choices : Choices
  pub whole : IsWhole choices
  pub ran : Cell_run
  pub is : run choices ≡ Ok ran
  pub ends : ran.ending ≡ ended
  pub cell : IsAfter g db.database given ended after ran.cell
  pub told : text_after ≡ text_before ++ trace db before.hosts.items ran.items
  pub causes : AreRises 0 ran.items (helds g before) (helds g after)

-- a line is refused for this reason, whatever its choices
abbrev pub IsRefused : Why → (Choices → Run_or_why) → Type 0
IsRefused why run = (choices : Choices) → run choices ≡ Err why

-- Memory ran out in a line that was run with some choices, perhaps in part, and before all was told: the disks hold what that left.
pub record IsShortAfter {D V : Type 0} (g : Ghosts D) (db : Database) (given : List ℕ) (run : Choices → Run_or_why)
    (before after : OpenCell D V g) : Type 0 where
  pub choices : Choices
  pub ran : Cell_run
  pub is : run choices ≡ Ok ran
  pub disks : HoldRun db given true ran.cell (helds g after)
  pub causes : AreRises 0 ran.items (helds g before) (helds g after)

-- Memory ran out in a line: the disks hold what was before it, or what it left.
abbrev pub IsShort : {D V : Type 0} (g : Ghosts D) → Database → List ℕ → (Choices → Run_or_why) → Cell → (before after : OpenCell D V g)
    → Type 0
IsShort g db given run c before after = HoldRun db given true c (helds g after) ⊎ IsShortAfter g db given run before after
