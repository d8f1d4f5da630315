-- A run of a server as the replay of its journal (own).
use Rattle.std.specs.Prelude.{◌≡◌, ◌<◌, ℕ, Option, Some, IfSome, List, is_some, slice_get, IsPermutation, Bool, Result, Ok, Err}
use Rattle.ubik_types.specs.Hosts.{IsCell}
use Rattle.disk_base.specs.declared.disks.Disk.{Ghosts}
use Rattle.disk_base.specs.Files.{Files}
use Rattle.db_image.specs.Standing.{Standing}
use Rattle.pt_database.specs.Service.{protection_standing}
use Rattle.vl_database.specs.Service.{vl_standing}
use Rattle.cell_model.specs.declared.events.Output.{Output}
use Rattle.cell_model.specs.Durable.{Durable}
use Rattle.cell_model.specs.Node as model
use Rattle.cell_model.specs.Step.{Member, cell_size}
use Rattle.ubik_node.specs.Disk.{StandsAs}
use Rattle.ubik_node.specs.Node.{node_of, own_member}
use Rattle.ubik_node.specs.declared.nodes.Node.{Node}
use Rattle.server_journal.specs.declared.items.JournalItem.{JournalItem}
use Rattle.server_station.specs.Fit.{IsOwnJournal}
use Rattle.server_station.specs.Replaying.{IsReplay}
use Rattle.server_texts.specs.Words.{Named}
use Rattle.server_texts.specs.declared.words.Database.{Database}
use Rattle.server_texts.specs.declared.words.Database.TheVariants.{Location, Protection}
use Rattle.server_texts.specs.declared.words.WordsFault.{WordsFault}
use Rattle.node_server.specs.declared.ends.ServerRun.{ServerRun}

-- what a node is that was just opened: this server, of this cell, over a disk that tells its files or not
pub record IsOpenedAs {D V : Type 0} (g : Ghosts D) (opened : Node D V g) (s : model.Node) (m : Member) (told : Bool) : Type 0 where
  pub server : node_of opened ≡ s
  pub member : own_member opened ≡ m
  pub tells : is_some (g.files opened.store.disk) ≡ told

-- What comes back of a server that was opened so: its journal is one that it can have made, whose replay leaves a server, and the disk is the
-- one of that server. Where that one is halted, the disk has failed oftener than so.
pub record IsReplayed {D : Type 0} (g : Ghosts D) (d : Standing) (m : Member) (opened : model.Node) (failed : ℕ)
    (kept : List JournalItem) (left : D) : Type 0 where
  pub node : model.Node
  pub outputs : List Output
  pub replay : IsReplay g d m opened kept node outputs left
  pub fails : (h : model.HaltedServer) → node ≡ model.Halted h → failed < g.faults left

-- Of a run: its journal is one of this server's. Over a disk that told its files it explains the disk that comes back, of a server that was
-- opened at the moment of the run on what these files stand for.
abbrev pub RunReplays : {D J : Type 0} → Ghosts D → (J → List JournalItem) → Standing → Member → (old new : D) → Option (ServerRun J)
    → Type 0
RunReplays g items_of d m old new ran =
    IfSome ran (λ run. IsOwnJournal m (items_of run.journal)
    × IfSome (g.files old) (λ fs. ∥ ((found : Durable) × StandsAs found fs
    × IsReplayed g d m (model.Up (model.opened_server (cell_size m) found run.opened)) (g.faults old) (items_of run.journal) new) ∥₁))

abbrev pub standing_of : Database → Standing
standing_of Location = vl_standing
standing_of Protection = protection_standing

-- a server of the cell that is named: its hosts, ascending, and the place of the own one
pub record IsMemberOf (named : Named) (m : Member) : Type 0 where
  pub cell : IsCell m.hosts
  pub hosts : IsPermutation named.hosts m.hosts
  pub me : slice_get m.hosts m.me ≡ Some named.own

-- The run is one of the database and the cell that the words name.
abbrev pub ReplaysNamed : {D J : Type 0} → Ghosts D → (J → List JournalItem) → Result Named WordsFault → (old new : D)
    → Option (ServerRun J) → Type 0
ReplaysNamed g items_of (Ok named) old new ran =
    IfSome ran (λ run. (m : Member) × IsMemberOf named m × RunReplays g items_of (standing_of named.database) m old new (Some run))
ReplaysNamed g items_of (Err fault) old new ran = IfSome ran (λ run. ⊥)
