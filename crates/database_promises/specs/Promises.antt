-- What servers of a database are worth that run (own).
use Rattle.std.specs.Prelude.{ℕ, Bool, List}
use Rattle.db_image.specs.Standing.{Standing}
use Rattle.ubik_types.specs.declared.hosts.Host.{Host}
use Rattle.cell_model.specs.World.{IsFirst, first_world}
use Rattle.journal_model.specs.Schedules.{ScheduleEntry, Fits}
use Rattle.server_promises.specs.Promises.{KeepsPromises}

-- In each cell each schedule that fits keeps its promises: nothing is asked besides.
abbrev pub ServersKeepPromises : Standing → Type 0
ServersKeepPromises d =
    (hosts : List Host) (clock : ℕ) (failed : List Bool) (schedule : List ScheduleEntry) →
    IsFirst hosts clock failed → Fits d (first_world hosts clock failed) schedule → KeepsPromises d.database hosts clock failed schedule
