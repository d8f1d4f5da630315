-- What a running cell stands for: a cell of the model.
use Rattle.std.specs.Prelude.{◌≡◌, ◌≤◌, ◌-◌, ℕ, false, Option, Some, None, List, [], ◌∷◌, map}
use Rattle.disk_base.specs.declared.disks.Disk.{Ghosts}
use Rattle.disk_base.specs.declared.disks.Fill.{Fill}
use Rattle.disk_base.specs.Stops.{DiskStop}
use Rattle.disk_base.specs.Stops.DiskStop.{Unarmed, Armed as ToStop}
use Rattle.db_image.specs.Database.{Database}
use Rattle.cell_model.specs.Node.{Node, Down, Halted, Up}
use Rattle.cell_model.specs.World.{Site as ModelSite}
use Rattle.cell_runs.specs.Script.{Armed, Cell}
use Rattle.cell_sites.specs.Counts.{HoldRun}
use Rattle.cell_sites.specs.Disks.{Held, held}
use Rattle.cell_sites.specs.declared.cells.OpenCell.{OpenCell}
use Rattle.cell_sites.specs.declared.sites.Server.{Server}
use Rattle.cell_sites.specs.declared.sites.Server.TheVariants as server
use Rattle.cell_sites.specs.declared.sites.Site.{Site}
use Rattle.ubik_node.specs.Node.{node_of}

-- the abstract server
abbrev pub server_node : {D V : Type 0} {g : Ghosts D} → Server D V g → Node
server_node (server.Down disk) = Down
server_node (server.Up node) = node_of node

-- its disk
abbrev pub server_disk : {D V : Type 0} {g : Ghosts D} → Server D V g → D
server_disk (server.Down disk) = disk
server_disk (server.Up node) = node.store.disk

abbrev pub site_disk : {D V : Type 0} {g : Ghosts D} → Site D V g → D
site_disk site = server_disk site.server

abbrev pub disks_of : {D V : Type 0} {g : Ghosts D} → OpenCell D V g → List D
disks_of running = map site_disk running.sites.items

-- what its disks read as, in their order
abbrev pub helds : {D V : Type 0} (g : Ghosts D) → OpenCell D V g → List Held
helds g running = map (λ site. held g (site_disk site)) running.sites.items

-- the clock and the server of the model; which ids were asked is not kept beside them
pub record IsSiteOf {D V : Type 0} {g : Ghosts D} (site : Site D V g) (s : ModelSite) : Type 0 where
  pub clock : s.clock ≡ site.clock
  pub node : s.node ≡ server_node site.server

abbrev pub AreSitesOf : {D V : Type 0} {g : Ghosts D} → List (Site D V g) → List ModelSite → Type 0
AreSitesOf [] [] = Unit {0}
AreSitesOf (site ∷ sites) (s ∷ others) = IsSiteOf site s × AreSitesOf sites others
AreSitesOf _ _ = ⊥

-- a disk is to stop as a script has it
abbrev pub StopsAs : Option Armed → DiskStop → Type 0
StopsAs None stop = stop ≡ Unarmed
StopsAs (Some armed) stop = (armed.made ≤ armed.calls) × ((fill : Fill) × (stop ≡ ToStop (armed.calls - armed.made) fill))

-- A disk is armed at a server that is up alone. That of a halted server gets no call until the server goes down, so nothing is said of it.
abbrev pub IsArmedAs : Node → Option Armed → DiskStop → Type 0
IsArmedAs Down armed stop = (armed ≡ None) × (stop ≡ Unarmed)
IsArmedAs (Halted h) armed stop = Unit {0}
IsArmedAs (Up s) armed stop = StopsAs armed stop

-- so each of these sites
abbrev pub AreArmed : {D V : Type 0} (g : Ghosts D) → List (Site D V g) → List (Option Armed) → Type 0
AreArmed g [] [] = Unit {0}
AreArmed g (site ∷ sites) (armed ∷ more) = IsArmedAs (server_node site.server) armed (g.stop (site_disk site)) × AreArmed g sites more
AreArmed g _ _ = ⊥

-- a running cell whose packets are these, and whose disks hold the run; `given` has their counts of changing calls before it
pub record IsModelledBy {D V : Type 0} (g : Ghosts D) (db : Database) (given : List ℕ) (running : OpenCell D V g) (c : Cell) : Type 0 where
  pub hosts : c.run.world.hosts ≡ running.hosts.items
  pub sites : AreSitesOf running.sites.items c.run.world.sites
  pub sent : c.run.world.packets ≡ running.packets.sent
  pub handed : c.handed ≡ running.packets.handed
  pub armed : AreArmed g running.sites.items c.armed
  pub disks : HoldRun db given false c (helds g running)
