-- What a line that was understood does in a run.
use Rattle.std.specs.Prelude.{◌≡◌, ◌⊎◌, ◌+◌, ◌-◌, ◌++◌, ℕ, Some, None, Result, Ok, Err, List, [], drop, length}
use Rattle.disk_base.specs.declared.disks.Disk.{Ghosts}
use Rattle.db_image.specs.Standing.{Standing}
use Rattle.ubik_types.specs.declared.limits.TheConstants.{MAXSERVERS}
use Rattle.cell_script.specs.declared.lines.Line.{Line}
use Rattle.cell_script.specs.declared.lines.TheConstants.{MAX_TICK}
use Rattle.cell_script.specs.declared.lines.Why.{Why}
use Rattle.cell_runs.specs.declared.endings.Ending.{Ending}
use Rattle.cell_runs.specs.declared.endings.Ending.TheVariants as ending
use Rattle.cell_runs.specs.Script.{Cell, Choices, Line_run, Run_or_why, Stage, Told, line_result, line_run, next_line}
use Rattle.cell_runs.specs.ScriptDatabase.{ScriptDatabase}
use Rattle.cell_runs.specs.Trace.{ending_text}
use Rattle.cell_sites.specs.declared.cells.OpenCell.{OpenCell}
use Rattle.cell_sites.specs.declared.faults.LineFault.{LineFault}
use Rattle.cell_sites.specs.declared.faults.LineFault.TheVariants.{Refused, Limit, NoMemory}
use Rattle.cell_sites.specs.Disks.{AreRises}
use Rattle.cell_sites.specs.Sites.{IsModelledBy, helds}
use Rattle.cell_sites.specs.Sound.{Bounds, IsSound}
use Rattle.cell_sites.specs.Told.{CellTold, IsRefused, IsShort}
use Rattle.ubik_cell.specs.declared.scripts.CellRun.{CellRun}
use Rattle.ubik_cell.specs.declared.scripts.RunEnd.{RunEnd}
use Rattle.ubik_cell.specs.declared.scripts.RunEnd.TheVariants as run_end
use Rattle.ubik_cell.specs.Lines.{IsAt, IsNear, IsSoundBy, IsSoundRun, IsRefusedLine, LineShort, LineTold, StageShort, StageTold, only, sites_in}

-- what a line does to a stage, by its choices
abbrev pub run_of_line : ScriptDatabase → Line → Stage → Choices → Result Line_run Why
run_of_line db l st choices = line_run (only db) (next_line st) choices l st.cell

-- What became of a line in a run: it was run and told; it passed a limit, or was refused, and nothing was done; or memory ran out.
abbrev pub LineDone : {D V : Type 0} (g : Ghosts D) → ScriptDatabase → Line → Result (Unit {0}) LineFault
    → (before after : CellRun D V g) → (text_before text_after : List ℕ) → Type 0
LineDone g db l (Ok done) before after text_before text_after =
    (given : List ℕ) (st : Stage) → IsNear g (only db) given 0 before st
    → StageTold g (only db) given (run_of_line db l st) None before after text_before text_after
LineDone g db l (Err (Limit which)) before after text_before text_after =
    (given : List ℕ) (st : Stage) → IsNear g (only db) given 0 before st →
    StageTold g (only db) given (run_of_line db l st) (Some (ending.Limit which)) before after text_before text_after
LineDone g db l (Err (Refused why)) before after text_before text_after =
    (after ≡ before) × (text_after ≡ text_before)
    × ((given : List ℕ) (st : Stage) → IsNear g (only db) given 0 before st → IsRefusedLine why (run_of_line db l st))
LineDone g db l (Err NoMemory) before after text_before text_after =
    (given : List ℕ) (st : Stage) → IsNear g (only db) given 0 before st
    → StageShort g (only db) given (run_of_line db l st) st before after

-- what a line keeps of a run: how many lines there were, and each disk in its place
pub record KeepsRun {D V : Type 0} (g : Ghosts D) (standing : Standing) (result : Result (Unit {0}) LineFault)
    (before after : CellRun D V g) : Type 0 where
  pub lines : after.lines ≡ before.lines
  pub disks : sites_in after.cell + length after.spare.items ≡ MAXSERVERS
  pub spare : after.spare.items ≡ drop (sites_in after.cell - sites_in before.cell) before.spare.items
  pub sound : result ≡ Ok tt → IsSoundBy g standing (before.lines + 1) after

-- what the bytes of a line do to a stage, by its choices
abbrev pub result_of : ScriptDatabase → List ℕ → Stage → Choices → Result Line_run Ending
result_of db bytes st choices = line_result (only db) st (record { line = bytes; choices = choices })

-- the script ends before a line does anything
abbrev pub IsEnded : {D V : Type 0} (g : Ghosts D) → ScriptDatabase → List ℕ → Ending → (before after : CellRun D V g)
    → (text_before text_after : List ℕ) → Type 0
IsEnded g db bytes e before after text_before text_after =
    (after ≡ before) × (text_after ≡ text_before)
    × ((given : List ℕ) (st : Stage) → IsNear g (only db) given 0 before st → (choices : Choices) → result_of db bytes st choices ≡ Err e)

-- What became of the bytes of a line in a run.
abbrev pub ReadDone : {D V : Type 0} (g : Ghosts D) → ScriptDatabase → List ℕ → Result (Unit {0}) LineFault
    → (before after : CellRun D V g) → (text_before text_after : List ℕ) → Type 0
ReadDone g db bytes (Ok done) before after text_before text_after =
    (given : List ℕ) (st : Stage) → IsNear g (only db) given 0 before st
    → StageTold g (only db) given (result_of db bytes st) None before after text_before text_after
ReadDone g db bytes (Err (Limit which)) before after text_before text_after =
    IsEnded g db bytes (ending.Limit which) before after text_before text_after
    ⊎ ((given : List ℕ) (st : Stage) → IsNear g (only db) given 0 before st →
    StageTold g (only db) given (result_of db bytes st) (Some (ending.Limit which)) before after text_before text_after)
ReadDone g db bytes (Err (Refused why)) before after text_before text_after =
    IsEnded g db bytes (ending.Refused why) before after text_before text_after
ReadDone g db bytes (Err NoMemory) before after text_before text_after =
    (given : List ℕ) (st : Stage) → IsNear g (only db) given 0 before st
    → StageShort g (only db) given (result_of db bytes st) st before after

-- What the bytes of a line left of a run: it was told, with its end where the script ends in it; or memory ran out.
abbrev pub LineEnds : {D V : Type 0} (g : Ghosts D) → ScriptDatabase → List ℕ → Result (Unit {0}) RunEnd
    → (before after : CellRun D V g) → (text_before text_after : List ℕ) → Type 0
LineEnds g db bytes (Ok done) before after text_before text_after =
    (given : List ℕ) (t : Told) → IsAt g (only db) given before t → t.ended ≡ None
    → LineTold g (only db) given bytes t (Ok done) after text_before text_after
LineEnds g db bytes (Err (run_end.Ended e)) before after text_before text_after =
    (given : List ℕ) (t : Told) → IsAt g (only db) given before t → t.ended ≡ None
    → LineTold g (only db) given bytes t (Err (run_end.Ended e)) after text_before text_after
LineEnds g db bytes (Err run_end.NoMemory) before after text_before text_after =
    (given : List ℕ) (t : Told) → IsAt g (only db) given before t → t.ended ≡ None → LineShort g (only db) given bytes t after

-- how a script ends in a line: that was told, or memory ran out in the telling
abbrev pub EndTold : (line : ℕ) → Ending → Result (Unit {0}) RunEnd → (text_before text_after : List ℕ) → Type 0
EndTold line e (Ok done) text_before text_after = ⊥
EndTold line e (Err (run_end.Ended other)) text_before text_after = (other ≡ e) × (text_after ≡ text_before ++ ending_text line e)
EndTold line e (Err run_end.NoMemory) text_before text_after = Unit {0}

-- what the bytes of a line keep of a run
pub record KeepsPlaces {D V : Type 0} (g : Ghosts D) (standing : Standing) (result : Result (Unit {0}) RunEnd)
    (before after : CellRun D V g) : Type 0 where
  pub disks : sites_in after.cell + length after.spare.items ≡ MAXSERVERS
  pub spare : after.spare.items ≡ drop (sites_in after.cell - sites_in before.cell) before.spare.items
  pub sound : result ≡ Ok tt → IsSoundRun g standing after
  pub lines : result ≡ Ok tt → after.lines ≡ before.lines + 1

-- the same of a line in a cell that stands
abbrev pub CellDone : {D V : Type 0} (g : Ghosts D) → ScriptDatabase → (Cell → Choices → Run_or_why)
    → Result (Unit {0}) LineFault → (before after : OpenCell D V g) → (text_before text_after : List ℕ) → Type 0
CellDone g db run (Ok done) before after text_before text_after =
    (given : List ℕ) (c : Cell) → IsModelledBy g db.database given before c
    → CellTold g db given (run c) None before after text_before text_after
CellDone g db run (Err (Limit which)) before after text_before text_after =
    (given : List ℕ) (c : Cell) → IsModelledBy g db.database given before c
    → CellTold g db given (run c) (Some (ending.Limit which)) before after text_before text_after
CellDone g db run (Err (Refused why)) before after text_before text_after =
    (after ≡ before) × (text_after ≡ text_before)
    × ((given : List ℕ) (c : Cell) → IsModelledBy g db.database given before c → IsRefused why (run c))
CellDone g db run (Err NoMemory) before after text_before text_after =
    (given : List ℕ) (c : Cell) → IsModelledBy g db.database given before c → IsShort g db.database given (run c) c before after

pub record KeepsCell {D V : Type 0} (g : Ghosts D) (standing : Standing) (result : Result (Unit {0}) LineFault)
    (before after : OpenCell D V g) : Type 0 where
  pub sound : result ≡ Ok tt → (bounds : Bounds) → IsSound g standing.database bounds before
      → IsSound g standing.database (record bounds { clock = bounds.clock + MAX_TICK }) after
  pub never_falls : AreRises 0 [] (helds g before) (helds g after)
  pub same : length after.sites.items ≡ length before.sites.items
