-- What a server of a sound cell needs for a step, and what the step is: the event is built for it, the images that a call is asked of stand for
-- states of the database, and what it takes from another server cuts no put.
use Rattle.std.proofs.Common.{◌≡◌, ◌<◌, ℕ, Bool, List, Some, IsSome, length, refl, sym, ap, subst}
use Rattle.std.specs.List.{AllByRecursion}
use Rattle.std.specs.Prelude.{slice_get}
use Rattle.disk_base.specs.declared.disks.Disk.{Ghosts}
use Rattle.ubik_types.specs.declared.hosts.Host.{Host}
use Rattle.ubik_types.specs.Moment.{IsMoment}
use Rattle.ubik_calls.specs.declared.packets.Body.{Body}
use Rattle.ubik_calls.specs.declared.packets.Body.TheVariants as body
use Rattle.ubik_calls.specs.Fields.{IsBounded}
use Rattle.ubik_calls.specs.WireGrammar.{body_fields}
use Rattle.db_image.specs.Database.{Database}
use Rattle.db_image.specs.Standing.{Standing}
use Rattle.cell_model.specs.declared.events.NodeEvent.{NodeEvent}
use Rattle.cell_model.specs.declared.events.NodeEvent.TheVariants as event
use Rattle.cell_model.specs.Node as model
use Rattle.cell_model.specs.NodeRule.{step_of}
use Rattle.cell_model.specs.Step.{Member}
use Rattle.cell_model.specs.Writes.{announced_image}
use Rattle.recovery_laws.specs.Stands.{IsMeantImage}
use Rattle.write_laws.specs.Keeping.{IsBrought, IsKeeping}
use Rattle.write_laws.specs.Lines.{unanswered}
use Rattle.write_laws.specs.Spreads.{IsWriteStep, WritesSpread}
use Rattle.ubik_node.specs.declared.nodes.Node.{Node}
use Rattle.ubik_node.specs.Built.{IsBuilt, IsBuiltBody}
use Rattle.ubik_node.specs.Node.{HoldsStates, Needs, NeedsFiles, node_of, up_server}
use Rattle.cell_sites.specs.declared.cells.OpenCell.{OpenCell}
use Rattle.cell_sites.specs.Calls.{AllStandUnder}
use Rattle.cell_sites.specs.Sound.{IsSoundDisk, Keeps}
use Rattle.cell_sites.specs.Stepped.{member_at, up_site}
use Rattle.cell_sites.proofs.Nodes.{is_up}

-- ---- packets

-- the version that a server may come to have is one, as each that is sent
bounded_built : (b : Body) → AllByRecursion IsBounded (body_fields b) → IsBuiltBody b
bounded_built (body.Beacon start claim ready version) bounded = tt
bounded_built (body.Vote start granted) bounded = tt
bounded_built (body.GetVersion poll) bounded = tt
bounded_built (body.VersionIs poll version) bounded = bounded.1.0
bounded_built (body.GetPiece poll version offset) bounded = tt
bounded_built (body.Piece poll version total offset bytes) bounded = tt
bounded_built (body.SendPiece poll version total offset bytes) bounded = bounded.1.0
bounded_built (body.PieceKept poll version next) bounded = tt
bounded_built (body.SetVersion poll old new) bounded = bounded.1.1.0
bounded_built (body.Begin old new pieces len) bounded = bounded.1.0
bounded_built (body.PutPiece new number bytes) bounded = tt
bounded_built (body.Commit old new) bounded = tt
bounded_built (body.Abort new) bounded = tt
bounded_built (body.VersionKept version) bounded = tt

-- an event that the cell brings is built
pub brought_built : (m : Member) (e : NodeEvent) → IsBrought m e → IsBuilt e
brought_built m (event.Packet p) brought = bounded_built p.body brought.bounded
brought_built m event.BeaconTurn brought = tt
brought_built m event.RecoverTurn brought = tt
brought_built m (event.Ask id call) brought = tt

-- a disk that tells its files serves each packet
needs_told : (b : Body) (tells : Type 0) → tells → NeedsFiles b tells
needs_told (body.Beacon start claim ready version) tells told = tt
needs_told (body.Vote start granted) tells told = tt
needs_told (body.GetVersion poll) tells told = tt
needs_told (body.SetVersion poll old new) tells told = tt
needs_told (body.VersionKept version) tells told = told
needs_told (body.VersionIs poll version) tells told = told
needs_told (body.Begin old new pieces len) tells told = tt
needs_told (body.PutPiece new number bytes) tells told = tt
needs_told (body.Abort new) tells told = tt
needs_told (body.GetPiece poll version offset) tells told = told
needs_told (body.Piece poll version total offset bytes) tells told = told
needs_told (body.SendPiece poll version total offset bytes) tells told = told
needs_told (body.PieceKept poll version next) tells told = told
needs_told (body.Commit old new) tells told = told

-- what a step needs
pub needs_met : {D V : Type 0} (g : Ghosts D) (db : Database) (m : Member) (node : Node D V g) (disk : IsSoundDisk g node.store.disk)
    (e : NodeEvent) (now : ℕ)
    → Needs db m (node_of node) e now (g.files node.store.disk)
needs_met g db m node disk e now = by (node_of node) e
  where
    by : (x : model.Node) (e : NodeEvent) → Needs db m x e now (g.files node.store.disk)
    by model.Down e = tt
    by (model.Halted h) e = tt
    by (model.Up s) (event.Packet p) = needs_told p.body (IsSome (g.files node.store.disk)) disk.told
    by (model.Up s) event.BeaconTurn = tt
    by (model.Up s) event.RecoverTurn = λ larger. disk.told
    by (model.Up s) (event.Ask id call) = λ evaluated. disk.told

-- where the images of the server stand for states of the database, so do those of the node
pub holds_met : {D V : Type 0} {g : Ghosts D} (standing : Standing) (node : Node D V g)
    → ((s : model.Server) → node_of node ≡ model.Up s → IsMeantImage standing s.image × IsMeantImage standing (announced_image s))
    → HoldsStates standing (node_of node)
holds_met standing node meant = by (node_of node) refl
  where
    by : (x : model.Node) → node_of node ≡ x → HoldsStates standing x
    by model.Down is = tt
    by (model.Halted h) is = tt
    by (model.Up s) is = meant s is

-- ---- a step

module _ {D V : Type 0} {g : Ghosts D} (db : Database) (running : OpenCell D V g) (k clock : ℕ) (node : Node D V g)
    (keeps : Keeps db running)
    (there : slice_get running.sites.items k ≡ Some (up_site clock node)) where
  -- the server that is up takes writes
  pub up_keeping : (s : model.Server) → node_of node ≡ model.Up s → IsKeeping db (length running.hosts.items) s
  up_keeping s up =
      let was = is_up node s up in
      subst (IsKeeping db (length running.hosts.items)) was.1 (keeps.servers k (up_site clock node) there node refl was.0).takes

  -- and the calls that it has not answered are calls of the cell
  pub up_line : (s : model.Server) → node_of node ≡ model.Up s → AllStandUnder running.calls (unanswered s)
  up_line s up =
      let was = is_up node s up in
      subst (λ (u : model.Server). AllStandUnder running.calls (unanswered u)) was.1
      (keeps.servers k (up_site clock node) there node refl was.0).line

  pub step_is : WritesSpread → k < length running.hosts.items → IsMoment clock → (e : NodeEvent) → IsBrought (member_at running k) e
      → (s : model.Server) → node_of node ≡ model.Up s → (short : List Bool)
      → IsWriteStep db (member_at running k) s e (step_of db (member_at running k) s clock e short)
  step_is law me moment e brought s up short = law.steps db (member_at running k) s clock e short me moment (up_keeping s up) brought
