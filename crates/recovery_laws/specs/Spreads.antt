-- A server without a write in flight stays one, and what it sends and makes durable is bounded (own).
use Rattle.std.specs.Prelude.{ℕ, ◌≡◌, ◌<◌, ◌≤◌, Bool, false, None, All, List, [], ◌∷◌, length, take}
use Rattle.ubik_types.specs.declared.hosts.Host.{Host}
use Rattle.ubik_types.specs.declared.limits.TheConstants.{MAX_IMAGE}
use Rattle.ubik_types.specs.Logged.{too_large}
use Rattle.ubik_types.specs.Moment.{IsMoment}
use Rattle.ubik_types.specs.declared.versions.Version.{Version}
use Rattle.ubik_types.specs.Version.{IsVersion, version_eq, zero_version}
use Rattle.ubik_calls.specs.declared.frames.Frame.TheVariants as frame
use Rattle.ubik_calls.specs.declared.packets.Packet.{Packet}
use Rattle.ubik_calls.specs.declared.packets.Body.{Body}
use Rattle.ubik_calls.specs.declared.packets.Body.TheVariants as body
use Rattle.ubik_calls.specs.Length.{HasShortBytes}
use Rattle.ubik_calls.specs.WireGrammar.{HasSpelling}
use Rattle.db_image.specs.Database.{Database}
use Rattle.cell_model.specs.declared.events.NodeEvent.{NodeEvent}
use Rattle.cell_model.specs.Durable.{Durable, DurableCall, Commit, Relabel, Install, Made, Reason, Received, durable, durable_after, durable_after_all}
use Rattle.cell_model.specs.Node.{Server, opened_server}
use Rattle.cell_model.specs.NodeRule.{step_of}
use Rattle.cell_model.specs.Step.{Member, cell_size, Stepped}
use Rattle.cell_model.specs.Voters.{AnswersCall, AsksNoOther}
use Rattle.cell_model.specs.World.{packets_of}
use Rattle.recovery_laws.specs.HasNoWrite.{HasNoWrite, IsRecoveryPacket, IsTaken}

-- ---- durable calls

-- a version, and not that of a database that nothing was written to
pub record IsLaterVersion (v : Version) : Type 0 where
  pub version : IsVersion v
  pub later : version_eq v zero_version ≡ false

-- A durable call leads to a version, and not to the first one. The changes of a commit are not too large over the image before, and an
-- installed image is no longer than the longest.
abbrev pub FitsOver : (before : List ℕ) → DurableCall → Type 0
FitsOver before (Commit version changes image) = IsLaterVersion version × (too_large 0 (length before) changes ≡ None)
FitsOver before (Relabel version) = IsLaterVersion version
FitsOver before (Install version image) = IsLaterVersion version × (length image ≤ MAX_IMAGE)

-- so of durable calls that are made one after the other
abbrev pub AllFit : Durable → List Made → Type 0
AllFit d [] = Unit {0}
AllFit d (made ∷ calls) = FitsOver d.image made.call × AllFit (durable_after d made.call) calls

-- no changes are taken from another server
abbrev pub TakesNoWrite : Reason → DurableCall → Type 0
TakesNoWrite Received (Commit version changes image) = ⊥
TakesNoWrite _ _ = Unit {0}

abbrev pub AllTakeNoWrite : List Made → Type 0
AllTakeNoWrite [] = Unit {0}
AllTakeNoWrite (made ∷ calls) = TakesNoWrite made.reason made.call × AllTakeNoWrite calls

abbrev pub durable_of : Server → Durable
durable_of s = durable s.version s.image

-- ---- steps

-- A step after which the server has no write either. It sends packets of votes and recovery alone, and makes at most two durable calls,
-- which fit, take no changes from another server, and lead to the database of the server; after the first so many of them the database has a
-- version too.
pub record IsRecoveryStep (m : Member) (s : Server) (t : Stepped) : Type 0 where
  pub server : HasNoWrite (cell_size m) t.server
  pub packets : All (IsRecoveryPacket m.hosts) (packets_of t.shown)
  pub fits : AllFit (durable_of s) t.calls
  pub leads : durable_after_all (durable_of s) t.calls ≡ durable_of t.server
  pub versions : (made : ℕ) → IsVersion (durable_after_all (durable_of s) (take made t.calls)).version
  pub few : length t.calls ≤ 2
  pub own : AllTakeNoWrite t.calls

-- what a server of code asks of a packet: the version that it may come to have by it is one
abbrev pub NamesVersion : Body → Type 0
NamesVersion (body.VersionIs poll version) = IsVersion version
NamesVersion (body.SendPiece poll version total offset bytes) = IsVersion version
NamesVersion (body.SetVersion poll old new) = IsVersion new
NamesVersion (body.Begin old new pieces len) = ⊥
NamesVersion (body.PutPiece new number bytes) = ⊥
NamesVersion (body.Commit old new) = ⊥
NamesVersion (body.Abort new) = ⊥
NamesVersion _ = Unit {0}

-- what a packet of votes or recovery is besides
pub record IsSentWhole (p : Packet) : Type 0 where
  pub names : NamesVersion p.body
  pub short : HasShortBytes p.body
  pub spelled : HasSpelling (frame.Packet p)

-- A server that was just opened on a version has no write, and so has one after each event that it takes, at each moment; each Ok
-- answers the call that is asked in that event; and each packet of votes and recovery has a spelling.
pub record RecoverySpreads : Type 0 where
  pub first : (servers : ℕ) (d : Durable) (now : ℕ) → IsVersion d.version → HasNoWrite servers (opened_server servers d now)
  pub steps : (db : Database) (m : Member) (s : Server) (now : ℕ) (e : NodeEvent) (short : List Bool) →
      m.me < cell_size m → IsMoment now → HasNoWrite (cell_size m) s → IsTaken db m s e → IsRecoveryStep m s (step_of db m s now e short)
  pub answers : (db : Database) (m : Member) (s : Server) (now : ℕ) (e : NodeEvent) (short : List Bool) (call : List ℕ) →
      m.me < cell_size m → IsMoment now → HasNoWrite (cell_size m) s → IsTaken db m s e → AsksNoOther e call →
      All (AnswersCall call) (step_of db m s now e short).shown
  pub whole : (hosts : List Host) (p : Packet) → IsRecoveryPacket hosts p → IsSentWhole p
