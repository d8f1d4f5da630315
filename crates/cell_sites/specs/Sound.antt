-- What is kept true of a running cell.
use Rattle.std.specs.Prelude.{◌≡◌, ◌≢◌, ◌+◌, ◌≤◌, ℕ, true, false, IfSome, IsSome, Some, All, List, [], ◌∷◌, length, map, slice_get}
use Rattle.disk_base.specs.declared.disks.Disk.{Ghosts}
use Rattle.disk_base.specs.Crash.{IsSettled}
use Rattle.ubik_types.specs.declared.hosts.Host.{Host}
use Rattle.ubik_types.specs.declared.limits.TheConstants.{MAXSERVERS}
use Rattle.ubik_types.specs.Moment.{IsMoment}
use Rattle.db_image.specs.Database.{Database}
use Rattle.cell_model.specs.Step.{Member}
use Rattle.cell_model.specs.World.{are_near}
use Rattle.cell_runs.specs.Script.{Cell, hosts_of}
use Rattle.script_laws.specs.CellRuns.{IsWorldRun}
use Rattle.write_laws.specs.Keeping.{IsCellPacket, IsKeeping}
use Rattle.write_laws.specs.Lines.{unanswered}
use Rattle.ubik_store.specs.Gaps.{IsPlain}
use Rattle.cell_sites.specs.Calls.{AllStandUnder}
use Rattle.cell_sites.specs.Sites.{IsModelledBy, site_disk}
use Rattle.cell_sites.specs.declared.cells.OpenCell.{OpenCell}
use Rattle.cell_sites.specs.declared.sites.Server.{Server}
use Rattle.cell_sites.specs.declared.sites.Server.TheVariants as server
use Rattle.cell_sites.specs.declared.sites.Site.{Site}
use Rattle.ubik_node.specs.declared.nodes.Node.{Node}
use Rattle.ubik_node.specs.Node.{own_member, up_server}

-- a server that is up, or halted
pub record IsSoundNode {D V : Type 0} (g : Ghosts D) (m : Member) (clock : ℕ) (n : Node D V g) : Type 0 where
  pub last : n.last ≤ clock
  pub member : own_member n ≡ m

abbrev pub IsSoundServer : {D V : Type 0} (g : Ghosts D) → Member → (clock : ℕ) → Server D V g → Type 0
IsSoundServer g m clock (server.Down disk) = Unit {0}
IsSoundServer g m clock (server.Up node) = IsSoundNode g m clock node

-- Between two steps a disk tells its files, nothing is pending on it, and a server can be opened over it however often that crashes.
pub record IsSoundDisk {D : Type 0} (g : Ghosts D) (disk : D) : Type 0 where
  pub told : IsSome (g.files disk)
  pub settled : IsSettled (g.files disk) (g.may_leave disk)
  pub plain : IfSome (g.files disk) IsPlain

pub record IsSoundSite {D V : Type 0} (g : Ghosts D) (m : Member) (bound : ℕ) (site : Site D V g) : Type 0 where
  pub moment : IsMoment site.clock
  pub within : site.clock ≤ bound
  pub server : IsSoundServer g m site.clock site.server
  pub disk : IsSoundDisk g (site_disk site)

-- so each of these sites, the first of which has this place among the hosts
abbrev pub AreSound : {D V : Type 0} (g : Ghosts D) → List Host → (place bound : ℕ) → List (Site D V g) → Type 0
AreSound g hosts place bound [] = Unit {0}
AreSound g hosts place bound (site ∷ sites) =
    IsSoundSite g (record { hosts = hosts; me = place }) bound site × AreSound g hosts (place + 1) bound sites

abbrev pub clocks_in : {D V : Type 0} {g : Ghosts D} → List (Site D V g) → List ℕ
clocks_in sites = map (λ site. site.clock) sites

-- a cell of 1 to 20 servers, whose clocks are near and at most this bound
pub record IsSteady {D V : Type 0} (g : Ghosts D) (bound : ℕ) (running : OpenCell D V g) : Type 0 where
  pub some : 1 ≤ length running.sites.items
  pub few : length running.sites.items ≤ MAXSERVERS
  pub hosts : running.hosts.items ≡ hosts_of (length running.sites.items)
  pub sites : AreSound g running.hosts.items 0 bound running.sites.items
  pub near : are_near (clocks_in running.sites.items) ≡ true
  pub told : running.outputs ≡ []

-- A server that is up and not halted takes writes, and the calls that it has not answered are calls of the cell, each under its id.
pub record KeepsNode {D V : Type 0} {g : Ghosts D} (db : Database) (hosts : List Host) (calls : List (List ℕ))
    (node : Node D V g) : Type 0 where
  pub takes : IsKeeping db (length hosts) (up_server node)
  pub line : AllStandUnder calls (unanswered (up_server node))

abbrev pub KeepsServer : {D V : Type 0} {g : Ghosts D} → Database → List Host → List (List ℕ) → Server D V g → Type 0
KeepsServer {D} {V} {g} db hosts calls s = (node : Node D V g) → s ≡ server.Up node → node.store.failed ≡ false
    → KeepsNode db hosts calls node

-- so each server of a cell; and its packets go from host to host of it
pub record Keeps {D V : Type 0} {g : Ghosts D} (db : Database) (running : OpenCell D V g) : Type 0 where
  pub servers : (k : ℕ) (site : Site D V g) → slice_get running.sites.items k ≡ Some site →
      KeepsServer db running.hosts.items running.calls site.server
  pub packets : All (IsCellPacket running.hosts.items) running.packets.sent

-- Behind the cell stands some run of the world, in which the ids of calls are at most this. So all that is proved of runs is known of it.
pub record HasRun {D V : Type 0} (g : Ghosts D) (db : Database) (asks : ℕ) (running : OpenCell D V g) : Type 0 where
  pub given : List ℕ
  pub cell : Cell
  pub stands : IsModelledBy g db given running cell
  pub run : IsWorldRun db asks cell

-- what clocks are at most, and how many calls were asked
pub record Bounds : Type 0 where
  pub clock : ℕ
  pub asks : ℕ

-- a running cell, between two lines, of a database whose blocks have a length
pub record IsSound {D V : Type 0} (g : Ghosts D) (db : Database) (bounds : Bounds) (running : OpenCell D V g) : Type 0 where
  pub steady : IsSteady g bounds.clock running
  pub keeps : Keeps db running
  pub calls : length running.calls ≡ bounds.asks
  pub run : HasRun g db bounds.asks running
  pub blocks : db.block ≢ 0
