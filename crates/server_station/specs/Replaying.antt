-- A server as the replay of its journal.
use Rattle.std.specs.Prelude.{◌≡◌, ℕ, true, IsSome, IsSomeAnd, List, [], ◌∷◌, ◌++◌, map}
use Rattle.disk_base.specs.declared.disks.Disk.{Ghosts}
use Rattle.disk_base.specs.Crash.{Narrows}
use Rattle.db_image.specs.Standing.{Standing}
use Rattle.cell_model.specs.declared.events.Output.{Output}
use Rattle.cell_model.specs.Durable.{Durable, Made}
use Rattle.cell_model.specs.Node as model
use Rattle.cell_model.specs.NodeRule.{step_by}
use Rattle.cell_model.specs.Step.{Member, cell_size}
use Rattle.journal_model.specs.Items as items
use Rattle.journal_model.specs.Laws.{IsJournal}
use Rattle.journal_model.specs.Replay.{replayed}
use Rattle.journal_model.specs.Schedules.{HasJournal}
use Rattle.ubik_node.specs.declared.nodes.Node.{Node}
use Rattle.ubik_node.specs.Choices.{Choices, dbs_of}
use Rattle.ubik_node.specs.Disk.{StandsAs, StandsBetween}
use Rattle.ubik_node.specs.Node.{durable_in, node_of, own_member}
use Rattle.server_journal.specs.declared.items.JournalItem.{JournalItem}
use Rattle.server_journal.specs.Items.{untold}
use Rattle.server_station.specs.Fit.{are_numbered}

-- the durable calls of the step that an item is of, by these choices
abbrev pub calls_in : (d : Standing) → Member → model.Server → items.JournalItem → Choices d → List Made
calls_in d m s item choice = (step_by (dbs_of choice) m s item.now item.event choice.short).calls

-- The disk of a server that is halted, at the end of its replay: it failed in the step of one of the items, at a server that was up behind
-- those before it. Since then a crash leaves the durable state of that server behind the first so many durable calls of the step, or one more.
pub record IsFailedIn {D : Type 0} (g : Ghosts D) (d : Standing) (m : Member) (opened : model.Node) (whole : List items.JournalItem)
    (disk : D) : Type 0 where
  pub before : List items.JournalItem
  pub item : items.JournalItem
  pub after : List items.JournalItem
  pub whole_is : whole ≡ before ++ item ∷ after
  pub server : model.Server
  pub was : (replayed d.database m opened before).node ≡ model.Up server
  pub halted : item.halted ≡ true
  pub choice : Choices d
  pub made : ℕ
  pub leaves : Narrows (StandsBetween (durable_in server) (calls_in d m server item choice) made) (g.may_leave disk)

-- The disk of a server that is up tells its files, and they stand for its durable state.
abbrev pub IsDiskOf : {D : Type 0} (g : Ghosts D) (d : Standing) (m : Member) (opened : model.Node) (whole : List items.JournalItem)
    → model.Node → D → Type 0
IsDiskOf g d m opened whole (model.Up s) disk = IsSomeAnd (g.files disk) (StandsAs (durable_in s))
IsDiskOf g d m opened whole (model.Halted h) disk = IsFailedIn g d m opened whole disk
IsDiskOf g d m opened whole model.Down disk = ⊥

-- A server that was opened so is now what the replay of its journal leaves, and has put out what that puts out. The replay is that of the
-- journal's items, each with what was evaluated in its step: each is one that the server can have made there, with just its bits.
pub record IsReplay {D : Type 0} (g : Ghosts D) (d : Standing) (m : Member) (opened : model.Node) (kept : List JournalItem)
    (now : model.Node) (outputs : List Output) (disk : D) : Type 0 where
  pub whole : List items.JournalItem
  pub kept_is : map untold whole ≡ kept
  pub journal : IsJournal d m opened whole now outputs
  pub disk_is : IsDiskOf g d m opened whole now disk

-- so of a node that was opened over a disk that told its files
abbrev pub Replays : {D V : Type 0} (g : Ghosts D) → Standing → (opened now : Node D V g) → List JournalItem → List Output → Type 0
Replays g d opened now kept outputs =
    IsSome (g.files opened.store.disk) → ∥ IsReplay g d (own_member opened) (node_of opened) kept (node_of now) outputs now.store.disk ∥₁

-- a node that was just opened: at its last moment, on some durable state
abbrev pub IsJustOpened : {D V : Type 0} {g : Ghosts D} → Node D V g → Type 0
IsJustOpened n = ∥ ((found : Durable) × (node_of n ≡ model.Up (model.opened_server (cell_size (own_member n)) found n.last))) ∥₁

-- What a station keeps by its type is what a schedule asks of its server alone: each item may come behind those before it, and no id is asked twice.
abbrev pub RecordedFits : {D : Type 0} → Ghosts D → Standing → Type 0
RecordedFits {D} g d =
    (m : Member) (opened : model.Node) (kept : List JournalItem) (now : model.Node) (outputs : List Output) (disk : D) →
    (is : IsReplay g d m opened kept now outputs disk) → are_numbered 0 kept ≡ true →
    HasJournal d m (record { opened = opened; items = is.whole; outputs = outputs })
