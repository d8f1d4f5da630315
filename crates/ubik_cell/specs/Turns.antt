-- A script that is read line by line: between two lines, and at its end.
use Rattle.std.specs.Prelude.{◌≡◌, ◌≢◌, ◌⊎◌, ℕ, Bool, true, false, Option, Some, None, Result, Ok, Err, List, [], ◌++◌, drop}
use Rattle.disk_base.specs.declared.disks.Disk.{Ghosts}
use Rattle.cell_runs.specs.Script.{AreWhole, LineRead, servers_of, told}
use Rattle.cell_runs.specs.ScriptDatabase.{Databases}
use Rattle.cell_sites.specs.Disks.{Held, all_held}
use Rattle.cell_sites.specs.Opened.{counts_of}
use Rattle.script_promises.specs.Databases.{databases}
use Rattle.ubik_cell.specs.declared.cells.CellKind.{CellKind}
use Rattle.ubik_cell.specs.declared.cells.CellKind.TheVariants as kind
use Rattle.ubik_cell.specs.declared.runs.ScriptRun.{ScriptRun}
use Rattle.ubik_cell.specs.declared.scripts.RunEnd.{RunEnd}
use Rattle.ubik_cell.specs.declared.scripts.RunEnd.TheVariants.{Ended, NoMemory}
use Rattle.ubik_cell.specs.Lines.{AreHeld, HeldCauses}
use Rattle.ubik_cell.specs.Runs.{IsConsumed, Runs, Wrote, kind_at, read_lines}
use Rattle.ubik_cell.specs.ScriptRuns.{StandsAt}

-- a run between two lines, where the source has ended or not
pub record SoFar {D : Type 0} (g : Ghosts D) (given : List ℕ) (text : List ℕ) (ended : Bool) (left : Option (List ℕ)) (before : List ℕ)
    (after : Option (List ℕ)) (run : ScriptRun D g) : Type 0 where
  pub readings : List LineRead
  pub whole : AreWhole readings
  pub rest : List ℕ
  pub remains : left ≡ Some rest
  pub consumed : IsConsumed ended text rest (read_lines readings)
  pub good : (told databases readings).ended ≡ None
  pub at : StandsAt g given run (told databases readings)
  pub wrote : Wrote before after (told databases readings).text

-- how a script ends at a line of this number, if it does, where all that the line told was written
abbrev pub end_after : ℕ → Result (Unit {0}) RunEnd → Option CellKind
end_after line (Ok done) = None
end_after line (Err (Ended ending)) = Some (kind_at line ending)
end_after line (Err NoMemory) = Some kind.NoMemory

-- the lines of which nothing was told, though they may have been run
abbrev pub more_of : (k : CellKind) (dbs : Databases) (readings : List LineRead) (text : List ℕ) (left : Option (List ℕ)) (before : List ℕ)
    (after : Option (List ℕ)) → Runs k dbs readings text left before after → List (List ℕ)
more_of kind.NoMemory dbs readings text left before after run = run.more
more_of _ dbs readings text left before after run = []

-- memory ran out
abbrev pub is_short : CellKind → Bool
is_short kind.NoMemory = true
is_short _ = false

-- A run at its end: what it has read and written, how many disks were reached, and what the disks hold.
pub record Ran (k : CellKind) (dbs : Databases) (given : List ℕ) (text : List ℕ) (left : Option (List ℕ)) (before : List ℕ)
    (after : Option (List ℕ))
    (reached : ℕ) (disks : List Held) : Type 0 where
  pub readings : List LineRead
  pub whole : AreWhole readings
  pub run : Runs k dbs readings text left before after
  pub more : List LineRead
  pub run_or_not : (more ≡ []) ⊎ (read_lines more ≡ more_of k dbs readings text left before after run)
  pub causes : HeldCauses (told dbs readings).stage.cell (told dbs readings).items disks
  pub held : AreHeld dbs given (is_short k) (told dbs (readings ++ more)) disks
  pub servers : k ≢ kind.NoMemory → reached ≡ servers_of (told dbs readings).stage.cell

-- the same over these disks: those that were not reached stay as they were
pub record RanOver {D : Type 0} (g : Ghosts D) (k : CellKind) (dbs : Databases) (text : List ℕ)
    (left : Option (List ℕ)) (before : List ℕ) (after : Option (List ℕ)) (disks_before disks_after : List D) : Type 0 where
  pub reached : ℕ
  pub ran : Ran k dbs (counts_of g disks_before) text left before after reached (all_held g disks_after)
  pub stay : drop reached disks_after ≡ drop reached disks_before
