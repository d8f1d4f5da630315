-- The opening of a cell, server by server.
use Rattle.std.specs.Prelude.{◌≡◌, ◌≢◌, ◌≤◌, ◌+◌, ◌++◌, ℕ, Bool, List, [], ◌∷◌, length, map, vec_capacity}
use Rattle.std.specs.List.{AllByRecursion}
use Rattle.disk_base.specs.declared.disks.Disk.{Ghosts}
use Rattle.disk_base.specs.Stops.DiskStop.{Unarmed}
use Rattle.ubik_types.specs.declared.limits.TheConstants.{MAXSERVERS}
use Rattle.cell_model.specs.World.{first_site, first_seen}
use Rattle.cell_script.specs.declared.lines.Kind.{Kind}
use Rattle.cell_runs.specs.Script.{Choice, IsHeard, fails_at, hosts_of, opened_cell}
use Rattle.cell_runs.specs.ScriptDatabase.{ScriptDatabase}
use Rattle.cell_runs.specs.Trace.{TraceItem, Tells, trace}
use Rattle.cell_sites.specs.Counts.{OpensFirst}
use Rattle.cell_sites.specs.Disks.{AreReadBy, AreRises, Held, all_held}
use Rattle.cell_sites.specs.OpenedServer.{IsEmptied}
use Rattle.cell_sites.specs.declared.sites.Site.{Site}
use Rattle.cell_sites.specs.Sites.{AreSitesOf, IsModelledBy, disks_of, helds, site_disk}
use Rattle.cell_sites.specs.Sound.{AreSound, IsSound}
use Rattle.cell_sites.specs.Traffic.{no_traffic}
use Rattle.cell_sites.specs.declared.cells.OpenCell.{OpenCell}

-- the hosts of a cell of 1 to 20 servers, and room for all of these
pub record HasRoom {D V : Type 0} {g : Ghosts D} (running : OpenCell D V g) : Type 0 where
  pub some : 1 ≤ length running.hosts.items
  pub few : length running.hosts.items ≤ MAXSERVERS
  pub hosts : running.hosts.items ≡ hosts_of (length running.hosts.items)
  pub room : length running.hosts.items ≤ vec_capacity running.sites

-- what is told of the openings of the first servers
abbrev pub opening_items : List Bool → List TraceItem
opening_items failed = map Tells (first_seen 0 failed)

-- how many changing calls these disks got
abbrev pub counts_of : {D : Type 0} → Ghosts D → List D → List ℕ
counts_of g disks = map g.steps disks

-- each count rose by an opening over empty files
abbrev pub AreFirstCounts : (failed : List Bool) → (given : List ℕ) → List Held → Type 0
AreFirstCounts [] [] [] = Unit {0}
AreFirstCounts (failed ∷ more) (before ∷ given) (disk ∷ disks) =
    ((opening : ℕ) × OpensFirst failed opening × (disk.steps ≡ before + opening)) × AreFirstCounts more given disks
AreFirstCounts _ _ _ = ⊥

-- none of these disks is to stop
abbrev pub AreUnarmed : {D V : Type 0} (g : Ghosts D) → List (Site D V g) → Type 0
AreUnarmed g [] = Unit {0}
AreUnarmed g (site ∷ sites) = (g.stop (site_disk site) ≡ Unarmed) × AreUnarmed g sites

-- The first servers of a cell were opened over these disks, at a clock; where a disk failed in that, its server is down. What is told of
-- that was added to a text, and each fault is one of its disk.
pub record ArePartOpened {D V : Type 0} (g : Ghosts D) (db : ScriptDatabase) (clock : ℕ) (given : List D) (running : OpenCell D V g)
    (text_before text_after : List ℕ) : Type 0 where
  pub failed : List Bool
  pub each : length failed ≡ length given
  pub sites : AreSitesOf running.sites.items (map (first_site (length running.hosts.items) clock) failed)
  pub sound : AreSound g running.hosts.items 0 clock running.sites.items
  pub packets : running.packets ≡ no_traffic
  pub outputs : running.outputs ≡ []
  pub calls : running.calls ≡ []
  pub told : text_after ≡ text_before ++ trace db running.hosts.items (opening_items failed)
  pub causes : AreRises 0 (opening_items failed) (all_held g given) (helds g running)
  pub read : AreReadBy (map (first_site (length running.hosts.items) clock) failed) (helds g running)
  pub counts : AreFirstCounts failed (counts_of g given) (helds g running)
  pub unarmed : AreUnarmed g running.sites.items
  pub blocks : db.database.block ≢ 0

-- one more disk has its place in the cell, and stands for no database still
pub record IsAdded {D V : Type 0} (g : Ghosts D) (disk : D) (before after : OpenCell D V g) : Type 0 where
  pub kept : D
  pub disks : disks_of after ≡ disks_of before ++ kept ∷ []
  pub emptied : IsEmptied g disk kept

-- A cell was opened, whose servers have these disks: it is that of some choices of where a disk fails.
pub record IsOpened {D V : Type 0} (g : Ghosts D) (db : ScriptDatabase) (clock : ℕ) (k : Kind) (given : List D) (running : OpenCell D V g)
    (text_before text_after : List ℕ) : Type 0 where
  pub choices : List Choice
  pub heard : AllByRecursion IsHeard choices
  pub stands : IsModelledBy g db.database (counts_of g given) running (opened_cell (length given) clock k (fails_at (length given) choices))
  pub sound : IsSound g db.database (record { clock = clock; asks = 0 }) running
  pub told : text_after ≡ text_before ++ trace db running.hosts.items (opening_items (fails_at (length given) choices))
  pub causes : AreRises 0 (opening_items (fails_at (length given) choices)) (all_held g given) (helds g running)
