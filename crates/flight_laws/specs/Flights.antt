-- What stands behind a write in flight, and what a server takes of another one's, after each run (own).
use Rattle.std.specs.Prelude.{ℕ, ◌≡◌, Bool, Some, List}
use Rattle.ubik_types.specs.declared.hosts.Host.{Host}
use Rattle.db_image.specs.Standing.{Standing}
use Rattle.cell_model.specs.declared.events.NodeEvent.{NodeEvent}
use Rattle.cell_model.specs.Node.{Up, Server}
use Rattle.cell_model.specs.NodeRule.{step_of}
use Rattle.cell_model.specs.Step.{Member}
use Rattle.cell_model.specs.World.{Site, Event, IsFirst, IsRun, first_world, site_of}
use Rattle.cell_model.specs.Writes.{announced_image}
use Rattle.cell_pages.specs.Laws.{run_of}
use Rattle.recovery_laws.specs.Stands.{IsMeantImage, IsService}
use Rattle.flight_laws.specs.Taken.{AllTakePuts}

-- A server that is up: the image that is announced, during a write in flight the one before it, stands for a state; and in each of its steps
-- the changes that it takes from another server are puts alone.
pub record HasWrites (standing : Standing) (s : Server) : Type 0 where
  pub before : IsMeantImage standing (announced_image s)
  pub takes : (m : Member) (now : ℕ) (e : NodeEvent) (short : List Bool) → AllTakePuts (step_of standing.database m s now e short).calls

-- In each cell, after each run, so of each server that is up.
abbrev pub WritesStand : Standing → Type 0
WritesStand standing =
    IsService standing →
    (hosts : List Host) (clock : ℕ) (failed : List Bool) (events : List Event) → IsFirst hosts clock failed →
    IsRun standing.database (first_world hosts clock failed) events →
    let r = run_of standing.database hosts clock failed events in
    (k : ℕ) (site : Site) (s : Server) → site_of r.world k ≡ Some site → site.node ≡ Up s → HasWrites standing s
