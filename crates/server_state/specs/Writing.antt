-- The own writes of a server: none before its first one, and after a lapse.
use Rattle.std.specs.Prelude.{◌≡◌, ℕ, ◌+◌, ◌<◌, ◌≤◌, nat_lt, Bool, false, Option, Some, None, IsSome, List, [], length, map, drop, slice_get}
use Rattle.lock_table.specs.declared.tables.TheConstants.{MAX_WAITING}
use Rattle.std.specs.Option.{ForSome}
use Rattle.ubik_types.specs.declared.hosts.Host.{Host}
use Rattle.ubik_types.specs.declared.limits.TheConstants.{MAX_IMAGE, SMALLTIME}
use Rattle.ubik_types.specs.declared.versions.Version.{Version}
use Rattle.ubik_types.specs.Phase.{Polled, Spread}
use Rattle.ubik_types.specs.Version.{IsVersion}
use Rattle.ubik_calls.specs.declared.packets.Body.{Body}
use Rattle.cell_model.specs.Node.{Flight, Server, Waiting}
use Rattle.cell_model.specs.Step.{Member, Shown, Stepped, packet_to, quiet, sent}
use Rattle.cell_model.specs.Writes.{ended_write, write_bodies}
use Rattle.site_writes.specs.OwnWrite.{OwnRecord}
use Rattle.site_writes.specs.Site.{SiteRecord, flight_in, no_writes}
use Rattle.ubik_recovery.specs.Record.{RecoveryRecord, with_text}
use Rattle.ubik_recovery.specs.Rules.{recovering}
use Rattle.ubik_write.specs.Flight.{FlightRecord}
use Rattle.ubik_write.specs.Undo.{image_before}
use Rattle.server_state.specs.Plain.{IsAnswer}

abbrev pub writes_of : Option SiteRecord → SiteRecord
writes_of None = no_writes
writes_of (Some site) = site

-- the write in flight, with what is kept of it
abbrev pub own_of : Option SiteRecord → Option OwnRecord
own_of writes = (writes_of writes).own

-- the same as the rules have it
abbrev pub flight_of : Option SiteRecord → Option Flight
flight_of writes = flight_in (writes_of writes)

abbrev pub waiting_of : Option SiteRecord → List Waiting
waiting_of writes = (writes_of writes).waiting

-- the version that is announced: during a write in flight the one before it
abbrev pub announced_of : Version → Option OwnRecord → Version
announced_of own None = own
announced_of own (Some write) = write.kept.old_version

-- the image before a write is what the bytes that are kept of it make of the image after it, and is no longer than an image may be
pub record IsUndoneOf (image : List ℕ) (write : OwnRecord) : Type 0 where
  pub bytes : write.flight.old_image ≡ image_before write.kept.undo write.kept.old_len image
  pub fits : write.kept.old_len ≤ MAX_IMAGE

-- what is said of a write has a spelling: the version before it is a version, and its answer is no longer than one may be
pub record IsPlainWrite (write : OwnRecord) : Type 0 where
  pub before : IsVersion write.kept.old_version
  pub answer : IsAnswer write.flight.answer

-- The writes of a server in a cell of so many, over this image. One that is in flight has others to go to, and those wait that find room; a
-- server that is alone has every write at once.
pub record AreOfCell (n : ℕ) (image : List ℕ) (writes : Option SiteRecord) : Type 0 where
  pub others : IsSome (own_of writes) → 1 < n
  pub undone : ForSome (own_of writes) (IsUndoneOf image)
  pub plain : ForSome (own_of writes) IsPlainWrite
  pub room : length (waiting_of writes) ≤ MAX_WAITING
  pub alone : n ≡ 1 → waiting_of writes ≡ []

-- a write in flight began more than 60 seconds ago
abbrev pub is_late : ℕ → Option OwnRecord → Bool
is_late now None = false
is_late now (Some write) = nat_lt (write.flight.began + SMALLTIME) now

-- a call has the place of a write that is to begin
abbrev pub HasPlace : ℕ → Option SiteRecord → Type 0
HasPlace id None = ⊥
HasPlace id (Some site) = site.held ≡ Some id

-- the packets of a write that leads to a version, to a host
abbrev pub flight_packets : Member → Host → Version → FlightRecord → List Shown
flight_packets m host new f = map (λ (body : Body). sent (packet_to m host body)) (write_bodies f.old_version new f.text)

-- the server in which a write has begun: with this recovery, and without a text
abbrev pub write_begun : OwnRecord → RecoveryRecord → Server → Server
write_begun write r s = record (recovering write.kept.old_version (with_text r None) s) { flight = Some write.flight }

-- the write in flight, if one is, is over
abbrev pub write_over : Server → Polled → Spread → Version → Option Flight → Stepped
write_over s poll spread announced None = quiet s
write_over s poll spread announced (Some f) = ended_write s f poll spread announced

-- the first of those that wait, if one does
abbrev pub IsFirstOf : Option Waiting → List Waiting → Type 0
IsFirstOf first waiting = first ≡ slice_get waiting 0

-- the server without it
abbrev pub without_first : Server → Server
without_first s = record s { waiting = drop 1 s.waiting }
