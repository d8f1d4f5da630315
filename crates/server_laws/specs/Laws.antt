-- Fitting schedules of running servers are runs of the world (own).
use Rattle.std.specs.Prelude.{◌≡◌, ◌≢◌, ℕ, Bool, true, Some, List, ◌++◌, length, map}
use Rattle.db_image.specs.Database.{Database}
use Rattle.db_image.specs.Standing.{Standing}
use Rattle.ubik_types.specs.declared.hosts.Host.{Host}
use Rattle.cell_model.specs.declared.events.NodeEvent.{NodeEvent}
use Rattle.cell_model.specs.Durable.{no_database}
use Rattle.cell_model.specs.Evaluating.{Told, MayAllCome, told_by}
use Rattle.cell_model.specs.Node.{Up, Server}
use Rattle.cell_model.specs.NodeRule.{step_by, step_of}
use Rattle.cell_model.specs.Step.{Member}
use Rattle.cell_model.specs.World.{World, Site, Event, IsFirst, IsRun, first_world, member, site_of, world_after}
use Rattle.journal_model.specs.Schedules.{ScheduleEntry, AllAllowed, Fits, HasJournal, IsReplayAt, Life, all_events, ends_life, life_from, life_in, scheduled, untold}
use Rattle.journal_model.specs.Standings.{each_image}

-- The events of a schedule are a run of the world, and lead to the world of the schedule.
pub record IsWorldRun (db : Database) (w : World) (schedule : List ScheduleEntry) : Type 0 where
  pub run : IsRun db w (all_events db w schedule)
  pub world : world_after db w (all_events db w schedule) ≡ scheduled db w schedule

-- At this server each step whose evaluations may have come is that of the world: what is told of them is what the database has.
abbrev pub IsMeantAt : Standing → Server → Type 0
IsMeantAt d s =
    (told : Told) → MayAllCome d told → (m : Member) (now : ℕ) (e : NodeEvent) (short : List Bool) →
    step_by (told_by d.database told) m s now e short ≡ step_of d.database m s now e short

-- so at each server of a world that is up
abbrev pub AllMeant : Standing → World → Type 0
AllMeant d w = (k : ℕ) (site : Site) (s : Server) → site_of w k ≡ Some site → site.node ≡ Up s → IsMeantAt d s

-- server k of a cell after a schedule: since it was last opened, or since the first world, where it was not
abbrev pub life_of : Database → List Host → ℕ → List Bool → List ScheduleEntry → ℕ → Life
life_of db hosts clock failed schedule k =
    life_in db (first_world hosts clock failed) k (life_from (length hosts) no_database clock) schedule

-- What schedules of a cell come to, from its first world on.
pub record MakesAWorld (d : Standing) (hosts : List Host) (clock : ℕ) (failed : List Bool) : Type 0 where
  -- after each run
  pub meant : (events : List Event) → IsRun d.database (first_world hosts clock failed) events →
      AllMeant d (world_after d.database (first_world hosts clock failed) events)
  -- each schedule that fits is a run
  pub run : (schedule : List ScheduleEntry) → Fits d (first_world hosts clock failed) schedule →
      IsWorldRun d.database (first_world hosts clock failed) schedule
  -- after each of its entries each server that is not down is the replay of its items since it was last opened
  pub replays : (front rest : List ScheduleEntry) → Fits d (first_world hosts clock failed) (front ++ rest) →
      let w = scheduled d.database (first_world hosts clock failed) front in
      (k : ℕ) (site : Site) → site_of w k ≡ Some site → IsReplayAt d.database w k (life_of d.database hosts clock failed front k) site
  -- each front of it fits
  pub fronts : (front rest : List ScheduleEntry) → Fits d (first_world hosts clock failed) (front ++ rest) →
      Fits d (first_world hosts clock failed) front
  -- After it each server has a journal, of the items since it was last opened.
  pub journals : (schedule : List ScheduleEntry) → Fits d (first_world hosts clock failed) schedule →
      (k : ℕ) → HasJournal d (member (first_world hosts clock failed) k) (life_of d.database hosts clock failed schedule k)
  -- And where each has one at the end of each of its lives, what the world allows fits: so this is all that is asked of the servers, of each
  -- by itself.
  pub fits : (schedule : List ScheduleEntry) → AllAllowed d.database (first_world hosts clock failed) schedule →
      ((front rest : List ScheduleEntry) → schedule ≡ front ++ rest → (k : ℕ) → ends_life k rest ≡ true →
      HasJournal d (member (first_world hosts clock failed) k) (life_of d.database hosts clock failed front k)) →
      Fits d (first_world hosts clock failed) schedule
  -- What its items tell of evaluations may be left out: it fits without, and has the same events.
  pub silent : (schedule : List ScheduleEntry) → Fits d (first_world hosts clock failed) schedule →
      Fits d (first_world hosts clock failed) (map untold schedule)
  pub same : (schedule : List ScheduleEntry) →
      all_events d.database (first_world hosts clock failed) (map untold schedule) ≡ all_events d.database (first_world hosts clock failed) schedule

-- In each cell, over a database over drafts, whose blocks have a length.
abbrev pub ServersMakeAWorld : Standing → Type 0
ServersMakeAWorld d =
    d.database.block ≢ 0 → (hosts : List Host) (clock : ℕ) (failed : List Bool) → IsFirst hosts clock failed → MakesAWorld d hosts clock failed

-- Over any database, no image of which is without a state, and of any list of hosts.
abbrev pub AnyMakeAWorld : Type 0
AnyMakeAWorld = (db : Database) (hosts : List Host) (clock : ℕ) (failed : List Bool) → MakesAWorld (each_image db) hosts clock failed
