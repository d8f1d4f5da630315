-- One order of the committed transactions of a cell (own).
use Rattle.std.specs.Prelude.{List}
use Rattle.db_image.specs.Standing.{Standing}
use Rattle.cell_model.specs.Book.{Run, order_of}
use Rattle.cell_model.specs.Durable.{Transaction}
use Rattle.cell_model.specs.Laws.{Grows}
use Rattle.cell_model.specs.World.{Event}
use Rattle.cell_runs.specs.Script.{Cell}
use Rattle.script_laws.specs.Runs.{run_of}

-- the run of a cell through these of its events, from its opening on
abbrev pub run_at : Standing → Cell → List Event → Run
run_at d c events = run_of d.database c events

-- the order of the committed transactions in a run
abbrev pub order_in : Run → List Transaction
order_in r = order_of r.announcements

-- the list of each announcement is a front of the list of each later one
abbrev pub HasOneOrder : Standing → Cell → Type 0
HasOneOrder d c = Grows (run_at d c c.events).announcements
