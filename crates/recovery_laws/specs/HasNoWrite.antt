-- A server that takes part in votes and in recovery, and has no write in flight: what it knows, what it takes, and what it sends (own).
use Rattle.std.specs.Prelude.{ℕ, ◌≡◌, ◌<◌, ◌≤◌, true, Option, Some, None, IsSome, List, [], length}
use Rattle.std.specs.List.{AllByRecursion}
use Rattle.ubik_types.specs.declared.hosts.Host.{Host}
use Rattle.ubik_types.specs.declared.limits.TheConstants.{MAX_IMAGE}
use Rattle.ubik_types.specs.declared.versions.Version.{Version}
use Rattle.ubik_types.specs.Phase.{Polled, PhaseRecord, NoPhase, Poll, Fetch, Relabel, Send, Ready}
use Rattle.ubik_types.specs.Version.{IsVersion}
use Rattle.ubik_calls.specs.declared.packets.Packet.{Packet}
use Rattle.ubik_calls.specs.declared.packets.Body.{Body}
use Rattle.ubik_calls.specs.declared.packets.Body.TheVariants.{Begin, PutPiece, Commit, Abort}
use Rattle.ubik_calls.specs.Fields.{IsBounded}
use Rattle.ubik_calls.specs.WireGrammar.{body_fields}
use Rattle.db_image.specs.Database.{Database}
use Rattle.cell_model.specs.declared.events.NodeEvent.{NodeEvent}
use Rattle.cell_model.specs.declared.events.NodeEvent.TheVariants as event
use Rattle.cell_model.specs.Node.{Server, ReceivedText}
use Rattle.cell_model.specs.NodeRule.{place_of}
use Rattle.cell_model.specs.Step.{Member, cell_size, is_ready}

-- ---- what it knows

abbrev pub IsAnswer : Option Version → Type 0
IsAnswer None = Unit {0}
IsAnswer (Some v) = IsVersion v

-- a poll of a cell of so many servers: what they answered are versions
pub record IsPollOf (servers : ℕ) (poll : Polled) : Type 0 where
  pub each : length poll.answers ≡ servers
  pub answers : AllByRecursion IsAnswer poll.answers

-- All that a phase names are versions, and the database is fetched from a server of the cell.
abbrev pub IsPhaseOf : (servers : ℕ) → PhaseRecord → Type 0
IsPhaseOf servers NoPhase = Unit {0}
IsPhaseOf servers (Poll poll) = IsPollOf servers poll
IsPhaseOf servers (Fetch poll best host) = IsPollOf servers poll × IsVersion best × (host < servers)
IsPhaseOf servers (Relabel poll) = IsPollOf servers poll
IsPhaseOf servers (Send poll spread) = IsPollOf servers poll × IsVersion spread.old
IsPhaseOf servers (Ready poll spread announced) = IsPollOf servers poll × IsVersion spread.old × IsVersion announced

-- the front of an image that is no longer than the longest one
pub record IsTextOf (text : ReceivedText) : Type 0 where
  pub version : IsVersion text.version
  pub total : text.total ≤ MAX_IMAGE
  pub front : length text.bytes ≤ text.total

abbrev pub IsReceived : Option ReceivedText → Type 0
IsReceived None = Unit {0}
IsReceived (Some text) = IsTextOf text

-- A server of a cell of so many: its version is one, and so are all that its phase and its received text name; no write is in flight
-- or kept, and no call waits.
pub record HasNoWrite (servers : ℕ) (s : Server) : Type 0 where
  pub version : IsVersion s.version
  pub phase : IsPhaseOf servers s.phase
  pub received : IsReceived s.received
  pub kept : s.kept ≡ None
  pub flight : s.flight ≡ None
  pub waiting : s.waiting ≡ []

-- ---- what it takes and sends

abbrev pub IsOfRecovery : Body → Type 0
IsOfRecovery (Begin old new pieces len) = ⊥
IsOfRecovery (PutPiece new number bytes) = ⊥
IsOfRecovery (Commit old new) = ⊥
IsOfRecovery (Abort new) = ⊥
IsOfRecovery _ = Unit {0}

-- of no write; its versions and pieces are bounded, as in each body that has a spelling
pub record IsRecoveryBody (b : Body) : Type 0 where
  pub kind : IsOfRecovery b
  pub bounded : AllByRecursion IsBounded (body_fields b)

-- a packet of votes or recovery from a host of the cell to one of the cell
pub record IsRecoveryPacket (hosts : List Host) (p : Packet) : Type 0 where
  pub body : IsRecoveryBody p.body
  pub sender : IsSome (place_of hosts p.from)
  pub receiver : IsSome (place_of hosts p.to)

-- A call that writes has its turn in a cell of one alone: elsewhere it is asked where no calls are served.
abbrev pub IsTaken : Database → Member → Server → NodeEvent → Type 0
IsTaken db m s (event.Packet p) = IsRecoveryPacket m.hosts p
IsTaken db m s event.BeaconTurn = Unit {0}
IsTaken db m s event.RecoverTurn = Unit {0}
IsTaken db m s (event.Ask id call) = db.writes call ≡ Some true → is_ready s.phase ≡ true → cell_size m ≡ 1
