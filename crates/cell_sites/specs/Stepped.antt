-- The step of one server of a running cell.
use Rattle.std.specs.Prelude.{◌≡◌, ◌⊎◌, ◌<◌, ℕ, true, false, Some, List, [], set, slice_get}
use Rattle.disk_base.specs.declared.disks.Disk.{Ghosts}
use Rattle.disk_base.specs.Files.{Files}
use Rattle.disk_base.specs.Stops.{IsStopped}
use Rattle.db_image.specs.Database.{Database}
use Rattle.cell_model.specs.declared.events.NodeEvent.{NodeEvent}
use Rattle.cell_model.specs.declared.events.Output.{Output}
use Rattle.cell_model.specs.Step.{Member}
use Rattle.ubik_store.specs.Gaps.{IsPlain}
use Rattle.ubik_node.specs.declared.nodes.Node.{Node}
use Rattle.ubik_node.specs.declared.nodes.StepEnd.{StepEnd}
use Rattle.ubik_node.specs.declared.nodes.StepEnd.TheVariants.{Done, Halted, NoMemory}
use Rattle.ubik_node.specs.Disk.{IsRevived}
use Rattle.ubik_node.specs.Node.{Calls, node_of, Steps}
use Rattle.cell_sites.specs.declared.cells.OpenCell.{OpenCell}
use Rattle.cell_sites.specs.declared.sites.Server.{Server}
use Rattle.cell_sites.specs.declared.sites.Server.TheVariants.{Down, Up}
use Rattle.cell_sites.specs.declared.sites.Site.{Site}
use Rattle.cell_sites.specs.declared.steps.SiteEnd.{SiteEnd}
use Rattle.cell_sites.specs.declared.steps.SiteEnd.TheVariants as ended
use Rattle.cell_sites.specs.Sites.{server_disk}
use Rattle.cell_sites.specs.Sound.{IsSoundDisk, IsSoundNode}

-- the server at a place of the cell
abbrev pub member_at : {D V : Type 0} {g : Ghosts D} → OpenCell D V g → ℕ → Member
member_at running k = record { hosts = running.hosts.items; me = k }

-- a server that is up, at its clock
abbrev pub up_site : {D V : Type 0} {g : Ghosts D} → ℕ → Node D V g → Site D V g
up_site clock node = record { clock = clock; server = Up node }

-- a server stays sound over a sound disk
pub record StaysSound {D V : Type 0} (g : Ghosts D) (m : Member) (clock : ℕ) (later : Node D V g) : Type 0 where
  pub node : IsSoundNode g m clock later
  pub disk : IsSoundDisk g later.store.disk

-- the step was made, or the server was halted before
pub record IsMade {D V : Type 0} (g : Ghosts D) (db : Database) (m : Member) (clock : ℕ) (event : NodeEvent) (node later : Node D V g)
    (out : List Output) : Type 0 where
  pub end : StepEnd
  pub ends : (end ≡ Done) ⊎ ((end ≡ Halted) × (node.store.failed ≡ true))
  pub steps : Steps g db m end event clock (node_of node) (node_of later) out node.store.disk later.store.disk
  pub calls : Calls g node later end
  pub sound : StaysSound g m clock later

-- the disk failed in it without a stop, and its files were opened anew
pub record IsHalted {D V : Type 0} (g : Ghosts D) (db : Database) (m : Member) (clock : ℕ) (event : NodeEvent) (node later : Node D V g)
    (out : List Output) : Type 0 where
  pub failed : D
  pub was : node.store.failed ≡ false
  pub steps : Steps g db m Halted event clock (node_of node) (node_of later) out node.store.disk failed
  pub running : ¬ IsStopped (g.stop failed)
  pub fault : g.faults node.store.disk < g.faults failed
  pub revived : IsRevived g failed later.store.disk
  pub sound : StaysSound g m clock later

-- the disk stopped in it, and is as it stopped: a server can be opened over what a crash leaves of it
pub record IsStoppedIn {D V : Type 0} (g : Ghosts D) (db : Database) (m : Member) (clock : ℕ) (event : NodeEvent)
    (node later : Node D V g) (out : List Output) : Type 0 where
  pub was : node.store.failed ≡ false
  pub steps : Steps g db m Halted event clock (node_of node) (node_of later) out node.store.disk later.store.disk
  pub calls : Calls g node later Halted
  pub stopped : IsStopped (g.stop later.store.disk)
  pub left : (fs : Files) → g.may_leave later.store.disk fs → IsPlain fs
  pub fault : g.faults node.store.disk < g.faults later.store.disk

-- memory ran out in it, and nothing changed
pub record IsShortIn {D V : Type 0} (g : Ghosts D) (db : Database) (m : Member) (clock : ℕ) (event : NodeEvent) (node later : Node D V g)
    (out : List Output) : Type 0 where
  pub steps : Steps g db m NoMemory event clock (node_of node) (node_of later) out node.store.disk later.store.disk
  pub sound : StaysSound g m clock later

-- A server made a step of the rules at its clock, with these outputs, by how it ended for the cell.
abbrev pub NodeStepped : {D V : Type 0} (g : Ghosts D) → Database → Member → (clock : ℕ) → NodeEvent → SiteEnd
    → (node later : Node D V g) → List Output
    → Type 0
NodeStepped g db m clock event ended.Made node later out = IsMade g db m clock event node later out
NodeStepped g db m clock event ended.Halts node later out = IsHalted g db m clock event node later out
NodeStepped g db m clock event ended.Stops node later out = IsStoppedIn g db m clock event node later out
NodeStepped g db m clock event ended.NoMemory node later out = IsShortIn g db m clock event node later out

-- The server at a place made such a step, and is there still, whatever its disk did; nothing else of the cell changed.
pub record UpStepped {D V : Type 0} (g : Ghosts D) (db : Database) (k : ℕ) (event : NodeEvent) (end : SiteEnd)
    (before after : OpenCell D V g) : Type 0 where
  pub clock : ℕ
  pub node : Node D V g
  pub there : slice_get before.sites.items k ≡ Some (up_site clock node)
  pub later : Node D V g
  pub step : NodeStepped g db (member_at before k) clock event end node later after.outputs
  pub sites : after.sites.items ≡ set before.sites.items k (up_site clock later)
  pub hosts : after.hosts.items ≡ before.hosts.items
  pub packets : after.packets ≡ before.packets
  pub calls : after.calls ≡ before.calls

-- what becomes of a server after its step, and of what it put out: where its disk stopped, it is down, its disk is revived, and it puts
-- nothing out
abbrev pub Becomes : {D V : Type 0} (g : Ghosts D) → SiteEnd → Node D V g → List Output → Server D V g → List Output → Type 0
Becomes g ended.Stops later out server left = ((disk : _) × (server ≡ Down disk) × IsRevived g later.store.disk disk) × (left ≡ [])
Becomes g _ later out server left = (server ≡ Up later) × (left ≡ out)

-- The server at a place made such a step; nothing else of the cell changed.
pub record SiteStepped {D V : Type 0} (g : Ghosts D) (db : Database) (k : ℕ) (event : NodeEvent) (end : SiteEnd)
    (before after : OpenCell D V g) : Type 0 where
  pub clock : ℕ
  pub node : Node D V g
  pub there : slice_get before.sites.items k ≡ Some (up_site clock node)
  pub later : Node D V g
  pub out : List Output
  pub step : NodeStepped g db (member_at before k) clock event end node later out
  pub server : Server D V g
  pub becomes : Becomes g end later out server after.outputs
  pub sites : after.sites.items ≡ set before.sites.items k (record { clock = clock; server = server })
  pub hosts : after.hosts.items ≡ before.hosts.items
  pub packets : after.packets ≡ before.packets
  pub calls : after.calls ≡ before.calls

-- the server at a place was taken down, and its disk revived; nothing else of the cell changed
pub record TakenDown {D V : Type 0} (g : Ghosts D) (k : ℕ) (before after : OpenCell D V g) : Type 0 where
  pub clock : ℕ
  pub server : Server D V g
  pub there : slice_get before.sites.items k ≡ Some (record { clock = clock; server = server })
  pub disk : D
  pub revived : IsRevived g (server_disk server) disk
  pub sites : after.sites.items ≡ set before.sites.items k (record { clock = clock; server = Down disk })
  pub hosts : after.hosts.items ≡ before.hosts.items
  pub packets : after.packets ≡ before.packets
  pub calls : after.calls ≡ before.calls
  pub outputs : after.outputs ≡ before.outputs
