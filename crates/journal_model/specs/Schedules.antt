-- Schedules: the items of the servers of a cell in one order, with what happened between them, and when such an order fits together
-- (own). Each server may run by itself, and keeps its own part (`IsOwn`); that its journal stands with the others in one schedule that the
-- world allows (`IsAllowed`) is what is asked of clocks, disks and packets.
use Rattle.std.specs.Prelude.{ℕ, ◌≡◌, ◌==◌, Bool, true, false, if◌then◌else◌, Option, Some, None, IsSomeAnd, filter_map, List, [], ◌∷◌, ◌++◌, length}
use Rattle.db_image.specs.Database.{Database}
use Rattle.db_image.specs.Standing.{Standing}
use Rattle.cell_model.specs.declared.events.NodeEvent.{NodeEvent}
use Rattle.cell_model.specs.declared.events.Output.{Output}
use Rattle.cell_model.specs.declared.events.Output.TheVariants as output
use Rattle.cell_model.specs.Durable.{Durable}
use Rattle.cell_model.specs.Node.{Node, Down, Up, opened_server}
use Rattle.cell_model.specs.Step.{Member}
use Rattle.cell_model.specs.World.{Site, World, Trigger, Event, Happening, Sent, Announced, Replied, IsEvent, is_down, is_new_ask, occasion, member, site_of, world_after, seen_of}
use Rattle.cell_model.specs.World as world
use Rattle.journal_model.specs.Asking.{asks_once}
use Rattle.journal_model.specs.Items.{JournalItem, choices_of}
use Rattle.journal_model.specs.Replay.{AreItemsOf, IsItemOf, replayed}

-- How far a step came that did not end: which of its calls found no memory until then, and how many of its durable calls were made.
pub record Progress : Type 0 where
  pub short : List Bool
  pub made : ℕ

pub data ScheduleEntry : Type 0 where
  -- one clock goes forward by so many seconds, or all do
  Tick : (server seconds : ℕ) → ScheduleEntry
  Tick_all : (seconds : ℕ) → ScheduleEntry
  -- a server goes down, if it was up, and is opened at a moment on a durable state that it found on its disk
  Open : (server now : ℕ) → (found : Durable) → ScheduleEntry
  -- A step that the journal of a server has, by what brought it. How far it came counts only where the server is halted in it.
  Item : (server : ℕ) → (trigger : Trigger) → (item : JournalItem) → (progress : Progress) → ScheduleEntry
  -- a step in which a server goes down; no journal has it
  Stop : (server : ℕ) → (trigger : Trigger) → (progress : Progress) → ScheduleEntry

-- ---- a schedule as events of the world

-- A step of a server: where it is halted in it, and was not before, its disk failed.
abbrev pub item_event : Node → Trigger → JournalItem → Progress → Event
item_event (Up s) trigger item progress =
    if item.halted then world.Fault trigger progress.short progress.made else world.Step trigger (choices_of item)
item_event node trigger item progress = world.Step trigger (choices_of item)

-- a server of the world; none is down
abbrev pub node_in : Option Site → Node
node_in None = Down
node_in (Some site) = site.node

-- the ids that were asked there since its opening
abbrev pub asked_at : Option Site → List ℕ
asked_at None = []
asked_at (Some site) = site.asked

abbrev pub events_of : World → ScheduleEntry → List Event
events_of w (Tick server seconds) = world.Tick server seconds ∷ []
events_of w (Tick_all seconds) = world.Tick_all seconds ∷ []
events_of w (Open server now found) = world.Crash server ∷ world.Restart server false ∷ []
events_of w (Item server trigger item progress) = item_event (node_in (site_of w server)) trigger item progress ∷ []
events_of w (Stop server trigger progress) = world.Stop trigger progress.short progress.made ∷ []

-- the world after an entry, and after a schedule
abbrev pub entered : Database → World → ScheduleEntry → World
entered db w entry = world_after db w (events_of w entry)

abbrev pub scheduled : Database → World → List ScheduleEntry → World
scheduled db w [] = w
scheduled db w (entry ∷ schedule) = scheduled db (entered db w entry) schedule

-- all events of a schedule, in their order
abbrev pub all_events : Database → World → List ScheduleEntry → List Event
all_events db w [] = []
all_events db w (entry ∷ schedule) = events_of w entry ++ all_events db (entered db w entry) schedule

-- ---- what fits

-- An opening at the server's clock, which finds the durable state that the server has.
pub record OpeningFits (now : ℕ) (found : Durable) (site : Site) : Type 0 where
  pub moment : now ≡ site.clock
  pub disk : found ≡ site.durable

-- A step of a server that is up, of an ask whose id is new since the opening.
pub record StepFits (event : NodeEvent) (site : Site) : Type 0 where
  pub up : is_down site.node ≡ false
  pub new : is_new_ask site.asked event ≡ true

-- A step of a server that is up, at its clock.
pub record ItemFits (item : JournalItem) (site : Site) : Type 0 where
  pub up : is_down site.node ≡ false
  pub moment : item.now ≡ site.clock

-- An item that may come at a server, and asks under no id that was asked there before.
pub record IsOwnItem (d : Standing) (m : Member) (node : Node) (asked : List ℕ) (item : JournalItem) : Type 0 where
  pub item_of : IsItemOf d m node item
  pub new : is_new_ask asked item.event ≡ true

-- What is asked of the world that the entries before left. Of clocks: they go on within seven seconds of each other, and each step and opening
-- has the moment of its server's clock. Of disks: they keep what was durable, and an opening finds it. Of packets: each was sent before, for
-- this server. And a server that makes a step is up; where it stops in an ask, no journal has it, and the id is new since the opening.
abbrev pub IsAllowed : World → ScheduleEntry → Type 0
IsAllowed w (Tick server seconds) = IsEvent w (world.Tick server seconds)
IsAllowed w (Tick_all seconds) = IsEvent w (world.Tick_all seconds)
IsAllowed w (Open server now found) = IsSomeAnd (site_of w server) (OpeningFits now found)
IsAllowed w (Item server trigger item progress) =
    (occasion w trigger ≡ Some (server, item.event)) × IsSomeAnd (site_of w server) (ItemFits item)
IsAllowed w (Stop server trigger progress) =
    (event : NodeEvent) × (occasion w trigger ≡ Some (server, event)) × IsSomeAnd (site_of w server) (StepFits event)

-- What is a server's own: its item is one that may come at it, as the items before it left it, and an id is asked once. Who keeps its journal
-- step by step, and numbers its calls, sees to that alone.
abbrev pub IsOwn : Standing → World → ScheduleEntry → Type 0
IsOwn d w (Item server trigger item progress) =
    IsOwnItem d (member w server) (node_in (site_of w server)) (asked_at (site_of w server)) item
IsOwn d w entry = Unit {0}

-- what an entry may be, in the world that those before it left
abbrev pub EntryFits : Standing → World → ScheduleEntry → Type 0
EntryFits d w entry = IsAllowed w entry × IsOwn d w entry

-- a schedule, each entry of which fits in the world that those before it left
abbrev pub Fits : Standing → World → List ScheduleEntry → Type 0
Fits d w [] = Unit {0}
Fits d w (entry ∷ schedule) = EntryFits d w entry × Fits d (entered d.database w entry) schedule

-- a schedule, each entry of which the world allows that those before it left, whatever the servers' own parts are
abbrev pub AllAllowed : Database → World → List ScheduleEntry → Type 0
AllAllowed db w [] = Unit {0}
AllAllowed db w (entry ∷ schedule) = IsAllowed w entry × AllAllowed db (entered db w entry) schedule

-- ---- what is told

-- an item, and an entry, without what was evaluated: so a server of code keeps it
abbrev pub item_untold : JournalItem → JournalItem
item_untold item = record item { evaluations = [] }

abbrev pub untold : ScheduleEntry → ScheduleEntry
untold (Item server trigger item progress) = Item server trigger (item_untold item) progress
untold entry = entry

-- ---- the journals of a schedule

-- A server since it was last opened: what it was then, its items, and what the world saw of it in their steps.
pub record Life : Type 0 where
  pub opened : Node
  pub items : List JournalItem
  pub outputs : List Output

-- a server of a cell of n, opened at a moment on a durable state
abbrev pub life_from : ℕ → Durable → ℕ → Life
life_from n found now = record { opened = Up (opened_server n found now); items = []; outputs = [] }

-- what was put out, of what was seen
abbrev pub output_in : Happening → Option Output
output_in (Sent number packet) = Some (output.Send packet)
output_in (Announced server version) = Some (output.Announce version)
output_in (Replied server id r evaluation) = Some (output.Reply id r)
output_in _ = None

abbrev pub life_with : Life → JournalItem → List Happening → Life
life_with life item seen =
    record life { items = life.items ++ item ∷ []; outputs = life.outputs ++ filter_map output_in seen }

-- server k of a cell of n after an entry of which this was seen
abbrev pub life_after : (n k : ℕ) → Life → ScheduleEntry → List Happening → Life
life_after n k life (Open server now found) seen = if server == k then life_from n found now else life
life_after n k life (Item server trigger item progress) seen = if server == k then life_with life item seen else life
life_after n k life entry seen = life

-- the same after a schedule
abbrev pub life_in : Database → World → ℕ → Life → List ScheduleEntry → Life
life_in db w k life [] = life
life_in db w k life (entry ∷ schedule) =
    life_in db (entered db w entry) k (life_after (length w.hosts) k life entry (seen_of db w (events_of w entry))) schedule

-- a life of server k ends before these entries: it is opened anew, or there is nothing more
abbrev pub ends_life : ℕ → List ScheduleEntry → Bool
ends_life k [] = true
ends_life k (Open server now found ∷ schedule) = server == k
ends_life k (entry ∷ schedule) = false

-- The items of a server since it was last opened: each is one that may come behind those before it, and no id is asked twice.
pub record HasJournal (d : Standing) (m : Member) (life : Life) : Type 0 where
  pub each : AreItemsOf d m life.opened life.items
  pub once : asks_once [] life.items ≡ true

-- A server that is not down is the replay of its items, and what was seen of it is what that puts out.
abbrev pub IsReplay : Database → Member → Life → Node → Type 0
IsReplay db m life Down = Unit {0}
IsReplay db m life node = replayed db m life.opened life.items ≡ record { node = node; outputs = life.outputs }

-- so of the server of a site
abbrev pub IsReplayAt : Database → World → ℕ → Life → Site → Type 0
IsReplayAt db w k life site = IsReplay db (member w k) life site.node
