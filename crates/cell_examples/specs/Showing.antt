-- The cells of the examples, their events, and what a run shows (own).
use Rattle.std.specs.Prelude.{ℕ, false, Option, None, Some, option_map, option_and_then, List, [], ◌∷◌}
use Rattle.ubik_types.specs.declared.hosts.Host.{Host}
use Rattle.ubik_types.specs.declared.versions.Version.{Version}
use Rattle.ubik_types.specs.Phase.{PhaseRecord}
use Rattle.cell_model.specs.Book.{Announcement, first_run, run_through, order_of}
use Rattle.cell_model.specs.Durable.{Durable, Transaction}
use Rattle.cell_model.specs.Node.{Node, Up}
use Rattle.cell_model.specs.World.{World, Site, Event, Step, Delivery, Beacon_turn, Recover_turn, Asking, Happening, first_world, site_of, happens, world_after}
use Rattle.cell_examples.specs.Register.{register}

abbrev pub host : ℕ → Host
host n = record { 0 = n }

-- cells of two and of three servers that are opened at 100
abbrev pub two : World
two = first_world (host 1 ∷ host 2 ∷ []) 100 (false ∷ false ∷ [])

abbrev pub three : World
three = first_world (host 1 ∷ host 2 ∷ host 3 ∷ []) 100 (false ∷ false ∷ false ∷ [])

-- steps in which memory suffices
abbrev pub delivers : ℕ → Event
delivers number = Step (Delivery number) []

abbrev pub beacons : ℕ → Event
beacons server = Step (Beacon_turn server) []

abbrev pub recovers : ℕ → Event
recovers server = Step (Recover_turn server) []

abbrev pub asks : ℕ → ℕ → List ℕ → Event
asks server id call = Step (Asking server id call) []

abbrev pub version : ℕ → ℕ → Version
version epoch counter = record { epoch = epoch; counter = counter }

abbrev pub transaction : ℕ → List ℕ → Transaction
transaction moment call = record { moment = moment; call = call }

-- what is seen of an event behind these
abbrev pub seen_behind : World → List Event → Event → List Happening
seen_behind w events e = (happens register (world_after register w events) e).seen

-- the announcements of these events, and the order that they give
abbrev pub announcements_of : World → List Event → List Announcement
announcements_of w events = (run_through register (first_run w) events).announcements

abbrev pub order_after : World → List Event → List Transaction
order_after w events = order_of (announcements_of w events)

-- what server k has on its disk after these events
abbrev pub disk_after : World → List Event → ℕ → Option Durable
disk_after w events k = option_map (λ (site : Site). site.durable) (site_of (world_after register w events) k)

-- in which phase server k is, where it is up
abbrev pub phase_in : Node → Option PhaseRecord
phase_in (Up s) = Some s.phase
phase_in _ = None

abbrev pub phase_after : World → List Event → ℕ → Option PhaseRecord
phase_after w events k = option_and_then (λ (site : Site). phase_in site.node) (site_of (world_after register w events) k)
