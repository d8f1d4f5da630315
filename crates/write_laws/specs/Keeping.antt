-- A server of a cell that takes writes over a majority: what it knows, what it takes, and what it sends (own).
use Rattle.std.specs.Prelude.{ℕ, ◌≡◌, ◌<◌, ◌≤◌, true, Option, Some, None, IsSome, List, [], length}
use Rattle.std.specs.List.{AllByRecursion}
use Rattle.lock_table.specs.declared.tables.TheConstants.{MAX_WAITING}
use Rattle.ubik_types.specs.declared.hosts.Host.{Host}
use Rattle.ubik_types.specs.declared.versions.Version.{Version}
use Rattle.ubik_types.specs.Logged.{too_large}
use Rattle.ubik_types.specs.Moment.{IsMoment}
use Rattle.ubik_types.specs.Phase.{PhaseRecord}
use Rattle.ubik_types.specs.Version.{IsVersion, version_lt}
use Rattle.ubik_calls.specs.declared.packets.Packet.{Packet}
use Rattle.ubik_calls.specs.declared.packets.TheConstants.{MAX_PIECE, MAX_PIECES}
use Rattle.ubik_calls.specs.Fields.{IsBounded}
use Rattle.ubik_calls.specs.WireGrammar.{body_fields}
use Rattle.db_image.specs.declared.services.CallReply.TheVariants as call_reply
use Rattle.db_image.specs.Database.{Database, changes_of}
use Rattle.cell_model.specs.declared.events.NodeEvent.{NodeEvent}
use Rattle.cell_model.specs.declared.events.NodeEvent.TheVariants as event
use Rattle.cell_model.specs.Node.{Server, KeptWrite, Flight, Waiting}
use Rattle.cell_model.specs.NodeRule.{place_of}
use Rattle.cell_model.specs.Step.{Member, is_ready, told_version}
use Rattle.cell_model.specs.Writes.{next_version}
use Rattle.recovery_laws.specs.HasNoWrite.{IsPhaseOf, IsReceived}

-- ---- the write of another server

-- a piece that has come is no longer than the longest
abbrev pub IsShortPiece : Option (List ℕ) → Type 0
IsShortPiece None = Unit {0}
IsShortPiece (Some bytes) = length bytes ≤ MAX_PIECE

-- it leads from a version to one above it, and has at most so many pieces
pub record IsBegunWrite (w : KeptWrite) : Type 0 where
  pub old : IsVersion w.old
  pub new : IsVersion w.new
  pub above : version_lt w.old w.new ≡ true
  pub few : length w.pieces ≤ MAX_PIECES
  pub short : AllByRecursion IsShortPiece w.pieces

abbrev pub IsKept : Option KeptWrite → Type 0
IsKept None = Unit {0}
IsKept (Some w) = IsBegunWrite w

-- ---- the own write

-- A write in flight, where this phase, version and image are the server's own: the server is ready, and not alone. The write is what the
-- database made of its call at a moment, on the image before it, with changes that are not too large over that. The own version is the
-- next of the announced one.
pub record IsOwnWrite (db : Database) (servers : ℕ) (phase : PhaseRecord) (version : Version) (image : List ℕ) (f : Flight) : Type 0 where
  pub several : 1 < servers
  pub ready : is_ready phase ≡ true
  pub next : version ≡ next_version (told_version phase version)
  pub began : IsMoment f.began
  pub writes : db.writes f.call ≡ Some true
  pub outcome : db.call f.old_image f.began f.call ≡ record { reply = call_reply.Done f.answer; image = image }
  pub changes : f.changes ≡ changes_of db f.old_image image
  pub small : too_large 0 (length f.old_image) f.changes ≡ None

abbrev pub IsInFlight : Database → (servers : ℕ) → PhaseRecord → Version → List ℕ → Option Flight → Type 0
IsInFlight db servers phase version image None = Unit {0}
IsInFlight db servers phase version image (Some f) = IsOwnWrite db servers phase version image f

-- a call that waits is one that writes
abbrev pub IsWriting : Database → Waiting → Type 0
IsWriting db w = db.writes w.call ≡ Some true

-- ---- servers

-- A server of a cell of so many: its version is one, and so are all that its phase and its received text name; the write that it keeps of
-- another server is a begun one, and that in flight its own. At most 64 calls wait, and only behind a write in flight.
pub record IsKeeping (db : Database) (servers : ℕ) (s : Server) : Type 0 where
  pub version : IsVersion s.version
  pub phase : IsPhaseOf servers s.phase
  pub received : IsReceived s.received
  pub kept : IsKept s.kept
  pub flight : IsInFlight db servers s.phase s.version s.image s.flight
  pub line : AllByRecursion (IsWriting db) s.waiting
  pub few : length s.waiting ≤ MAX_WAITING
  pub idle : s.flight ≡ None → s.waiting ≡ []

-- ---- what it takes and sends

-- A packet from a host of the cell to one of the cell. Its versions and pieces are bounded, as in each that has a spelling.
pub record IsCellPacket (hosts : List Host) (p : Packet) : Type 0 where
  pub bounded : AllByRecursion IsBounded (body_fields p.body)
  pub sender : IsSome (place_of hosts p.from)
  pub receiver : IsSome (place_of hosts p.to)

-- an event that a cell brings: any turn, any call, and each packet of the cell
abbrev pub IsBrought : Member → NodeEvent → Type 0
IsBrought m (event.Packet p) = IsCellPacket m.hosts p
IsBrought m _ = Unit {0}
