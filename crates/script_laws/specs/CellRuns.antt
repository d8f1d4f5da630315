-- The run of a cell of a script is one of the world, and stays so in each line (own).
use Rattle.std.specs.Prelude.{ℕ, ◌≡◌, ◌<◌, ◌≤◌, Bool, All, Option, Ok, List, [], ◌∷◌, length}
use Rattle.ubik_types.specs.declared.hosts.Host.{Host}
use Rattle.ubik_types.specs.declared.limits.TheConstants.{MAXSERVERS}
use Rattle.ubik_types.specs.Moment.{IsMoment}
use Rattle.db_image.specs.Database.{Database}
use Rattle.cell_model.specs.Node.{Node, Down, Halted, Up}
use Rattle.cell_model.specs.World.{IsFirst, IsRun, Site, World}
use Rattle.cell_places.specs.Places.{IsBetween, IsPhaseOf}
use Rattle.cell_script.specs.declared.lines.Kind.{Kind}
use Rattle.cell_script.specs.declared.lines.Line.{Line}
use Rattle.cell_script.specs.declared.lines.Line.TheVariants as line
use Rattle.cell_runs.specs.Script.{Cell, Cell_run, Choice, Choices, asked_at, first_of, opened_cell, run_in}
use Rattle.cell_runs.specs.ScriptDatabase.{ScriptDatabase}
use Rattle.script_laws.specs.Runs.{run_of}

-- ---- worlds that lines lead to

-- these ids are of so many calls
abbrev pub IdsFit : (asks : ℕ) → List ℕ → Type 0
IdsFit asks [] = Unit {0}
IdsFit asks (id ∷ ids) = (id ≤ asks) × IdsFit asks ids

-- the phase of a server that is up has a place for each server of the cell
abbrev pub NodeFits : List Host → Node → Type 0
NodeFits hosts Down = Unit {0}
NodeFits hosts (Halted h) = Unit {0}
NodeFits hosts (Up s) = IsPhaseOf (length hosts) s.phase

pub record SiteFits (hosts : List Host) (asks : ℕ) (site : Site) : Type 0 where
  pub ids : IdsFit asks site.asked
  pub node : NodeFits hosts site.node

-- so many calls were asked, and packets go from host to host of the cell
pub record Fits (asks : ℕ) (w : World) : Type 0 where
  pub each : length w.sites ≡ length w.hosts
  pub sites : All (SiteFits w.hosts asks) w.sites
  pub packets : All (IsBetween w.hosts) w.packets

-- ---- cells

-- The run of a cell is one of the world: it was opened as a first world, and each event is one of the world that those before it left.
-- The ids of the calls that were asked are at most this.
pub record IsWorldRun (db : Database) (asks : ℕ) (c : Cell) : Type 0 where
  pub first : IsFirst c.run.world.hosts c.opening.clock c.opening.failed
  pub run : c.run ≡ run_of db c c.events
  pub legal : IsRun db (first_of c) c.events
  pub fits : Fits asks c.run.world
  pub handed : length c.handed ≡ length c.run.world.packets

-- a line that lets clocks go on lets them go forward
abbrev pub TicksOn : Line → Type 0
TicksOn (line.Tick server seconds) = 1 ≤ seconds
TicksOn (line.TickAll seconds) = 1 ≤ seconds
TicksOn _ = Unit {0}

-- So is the run of a cell that was opened, and that of one after each line, and after each call under an id that is new.
pub record CellsGoOn : Type 0 where
  pub opened : (db : Database) (asks servers clock : ℕ) (k : Kind) (failed : List Bool) →
      1 ≤ servers → servers ≤ MAXSERVERS → IsMoment clock → length failed ≡ servers → IsWorldRun db asks (opened_cell servers clock k failed)
  pub line : (script_db : ScriptDatabase) (asks : ℕ) (c : Cell) (choices : Choices) (l : Line) (r : Cell_run) →
      TicksOn l → IsWorldRun script_db.database asks c → run_in script_db c choices l ≡ Ok r → IsWorldRun script_db.database asks r.cell
  pub ask : (script_db : ScriptDatabase) (asks id : ℕ) (c : Cell) (choice : Choice) (call : List ℕ) (server : Option ℕ) (r : Cell_run) →
      asks < id → IsWorldRun script_db.database asks c → asked_at script_db c choice id call server ≡ Ok r → IsWorldRun script_db.database id r.cell
