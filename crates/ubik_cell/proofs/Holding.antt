-- Between two lines the disks hold what the lines have left.
use Rattle.std.proofs.Common.{◌≡◌, ℕ, List, false, sym}
use Rattle.disk_base.specs.declared.disks.Disk.{Ghosts}
use Rattle.cell_runs.specs.Script.{Told, servers_of}
use Rattle.cell_runs.specs.ScriptDatabase.{Databases}
use Rattle.cell_sites.specs.Disks.{all_held}
use Rattle.ubik_cell.specs.declared.scripts.CellRun.{CellRun}
use Rattle.ubik_cell.specs.Lines.{AreHeld, IsAt, IsSoundRun, bounds_after, run_helds, sites_in}
use Rattle.ubik_cell.proofs.Lifting.{near_holds, run_causes, servers_match}
use Rattle.db_image.specs.Standing.{Standing}

module _ {D V : Type 0} {standing : Standing} (g : Ghosts D) (dbs : Databases) (given : List ℕ) (run : CellRun D V g) (t : Told)
    (sound : IsSoundRun g standing run)
    (at : IsAt g dbs given run t) where
  pub held_at : AreHeld dbs given false t (run_helds g run)
  held_at = record {
    holds = near_holds g dbs given 0 run t.stage sound at.stage;
    causes = run_causes g dbs given run.cell t.stage.cell t.items (all_held g run.spare.items) at.stage.cell at.causes;
  }

  -- as many sites as the cell has servers
  pub count_at : sites_in run.cell ≡ servers_of t.stage.cell
  count_at = sym (servers_match standing g dbs given (bounds_after run.lines run.asks) run.cell t.stage.cell sound.cell at.stage.cell)
