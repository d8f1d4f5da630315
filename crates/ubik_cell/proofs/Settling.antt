-- Nothing is pending on the disks of a run.
use Rattle.std.proofs.Common.{◌≡◌, ◌++◌, ℕ, Option, Some, None, List, [], map, drop, sym, subst}
use Rattle.std.proofs.lemmas.List.Elements.{All-append, All-drop, All-nil, All-push, All-weaker}
use Rattle.disk_base.specs.declared.disks.Disk.{Ghosts}
use Rattle.db_image.specs.Database.{Database}
use Rattle.db_image.specs.Standing.{Standing}
use Rattle.cell_sites.specs.declared.cells.OpenCell.{OpenCell}
use Rattle.cell_sites.specs.declared.sites.Site.{Site}
use Rattle.cell_sites.specs.Disks.{AreSettled}
use Rattle.cell_sites.specs.Opened.{IsAdded}
use Rattle.cell_sites.specs.Sites.{disks_of, site_disk}
use Rattle.cell_sites.specs.Sound.{Bounds, IsSound}
use Rattle.cell_sites.proofs.Settling.{AtRest, sound_settled}
use Rattle.ubik_cell.specs.declared.runs.ScriptRun.{ScriptRun}
use Rattle.ubik_cell.specs.declared.runs.ScriptRun.TheVariants as over
use Rattle.ubik_cell.specs.declared.scripts.CellRun.{CellRun}
use Rattle.ubik_cell.specs.Disks.{AllFresh, IsFresh}
use Rattle.ubik_cell.specs.Lines.{CellIsSound, IsSoundRun, bounds_after, cell_disks, run_disks}
use Rattle.ubik_cell.specs.ScriptRuns.{IsSoundScript, script_disks}

module _ {D V : Type 0} (g : Ghosts D) where
  -- ---- a cell

  -- one that stayed
  pub stays_settled : {database : Database} (bounds : Bounds) (before after : OpenCell D V g) → after ≡ before
      → IsSound g database bounds before → AreSettled g (disks_of after)
  stays_settled bounds before after same sound =
      subst (λ (r : OpenCell D V g). AreSettled g (disks_of r)) (sym same) (sound_settled g bounds.clock before sound.steady)

  -- one without servers
  pub none_settled : (running : OpenCell D V g) → running.sites.items ≡ [] → AreSettled g (disks_of running)
  none_settled running none = subst (λ (sites : List (Site D V g)). AreSettled g (map site_disk sites)) (sym none) (All-nil (AtRest g))

  -- one more disk
  pub added_settled : (disk : D) (before after : OpenCell D V g) → IsAdded g disk before after → AreSettled g (disks_of before)
      → AreSettled g (disks_of after)
  added_settled disk before after added settled =
      subst (AreSettled g) (sym added.disks) (All-push (AtRest g) (disks_of before) added.kept settled added.emptied.settled)

  -- ---- a run

  cell_settled : (standing : Standing) (bounds : Bounds) (cell : Option (OpenCell D V g)) → CellIsSound g standing bounds cell
      → AreSettled g (cell_disks cell)
  cell_settled standing bounds None sound = All-nil (AtRest g)
  cell_settled standing bounds (Some running) sound = sound_settled g bounds.clock running sound.steady

  -- the disks of a cell, and those behind it
  pub joined_settled : (cell : Option (OpenCell D V g)) (spare : List D) → AreSettled g (cell_disks cell) → AreSettled g spare
      → AreSettled g (cell_disks cell ++ spare)
  joined_settled cell spare front behind = All-append (AtRest g) (cell_disks cell) spare front behind

  pub run_settled : {standing : Standing} (run : CellRun D V g) → IsSoundRun g standing run → AreSettled g (run_disks run)
  run_settled {standing} run sound =
      joined_settled run.cell run.spare.items (cell_settled standing (bounds_after run.lines run.asks) run.cell sound.cell) sound.settled

  -- the cell of a sound run
  pub here_settled : {standing : Standing} (run : CellRun D V g) (running : OpenCell D V g) → run.cell ≡ Some running
      → IsSoundRun g standing run
      → AreSettled g (disks_of running)
  here_settled {standing} run running here sound =
      subst (λ (o : Option (OpenCell D V g)). AreSettled g (cell_disks o)) here
      (cell_settled standing (bounds_after run.lines run.asks) run.cell sound.cell)

  -- a cell that was opened over the first of the disks, however many these were
  pub opened_settled : (cell : Option (OpenCell D V g)) (running : OpenCell D V g) (given spare : List D) (n : ℕ) → cell ≡ Some running
      → AreSettled g (disks_of running) → spare ≡ drop n given → AreSettled g given → AreSettled g (cell_disks cell ++ spare)
  opened_settled cell running given spare n here front left settled =
      joined_settled cell spare
      (subst (λ (o : Option (OpenCell D V g)). AreSettled g (cell_disks o)) (sym here) front)
      (subst (AreSettled g) (sym left) (All-drop (AtRest g) n given settled))

module _ {D : Type 0} (g : Ghosts D) where
  -- before the script
  pub fresh_settled : (disks : List D) → AllFresh g.files g.may_leave g.stop g.faults disks → AreSettled g disks
  fresh_settled disks fresh =
      All-weaker (λ (d : D). IsFresh g.files g.may_leave g.stop g.faults d) (AtRest g)
      (λ d is. is.settled) disks fresh

  pub script_settled : (run : ScriptRun D g) → IsSoundScript g run → AreSettled g (script_disks run)
  script_settled (over.Protection run) sound = run_settled g run sound
  script_settled (over.Location run) sound = run_settled g run sound
