-- A server of a cell that takes writes stays one, and what it sends, makes durable and answers is bounded (own).
use Rattle.std.specs.Prelude.{ℕ, ◌≡◌, ◌<◌, ◌≤◌, Bool, All, List, length, take}
use Rattle.ubik_types.specs.declared.hosts.Host.{Host}
use Rattle.ubik_types.specs.Moment.{IsMoment}
use Rattle.ubik_types.specs.Version.{IsVersion}
use Rattle.ubik_calls.specs.declared.frames.Frame.TheVariants as frame
use Rattle.ubik_calls.specs.declared.packets.Packet.{Packet}
use Rattle.ubik_calls.specs.Length.{HasShortBytes}
use Rattle.ubik_calls.specs.WireGrammar.{HasSpelling}
use Rattle.db_image.specs.Database.{Database}
use Rattle.cell_model.specs.declared.events.NodeEvent.{NodeEvent}
use Rattle.cell_model.specs.Durable.{Durable, durable_after_all}
use Rattle.cell_model.specs.Node.{Server, opened_server}
use Rattle.cell_model.specs.NodeRule.{step_of}
use Rattle.cell_model.specs.Step.{Member, cell_size, Stepped}
use Rattle.cell_model.specs.World.{packets_of}
use Rattle.recovery_laws.specs.HasNoWrite.{HasNoWrite, IsRecoveryPacket}
use Rattle.recovery_laws.specs.Spreads.{AllFit, durable_of}
use Rattle.write_laws.specs.Keeping.{IsKeeping, IsCellPacket, IsBrought}
use Rattle.write_laws.specs.Lines.{unanswered, asked_in, answers_of, IsLine, LinesCount}

-- A step in an event. It sends packets of the cell alone, and makes at most two durable calls, which fit, and lead to the database of the
-- server; after the first so many of them the database has a version too. Its replies are answers to calls that had none.
pub record IsWriteStep (db : Database) (m : Member) (s : Server) (e : NodeEvent) (t : Stepped) : Type 0 where
  pub server : IsKeeping db (cell_size m) t.server
  pub packets : All (IsCellPacket m.hosts) (packets_of t.shown)
  pub fits : AllFit (durable_of s) t.calls
  pub leads : durable_after_all (durable_of s) t.calls ≡ durable_of t.server
  pub versions : (made : ℕ) → IsVersion (durable_after_all (durable_of s) (take made t.calls)).version
  pub few : length t.calls ≤ 2
  pub line : IsLine db (unanswered s) (asked_in e) (answers_of t.shown) (unanswered t.server)

-- what a packet of a cell is besides
pub record IsSpelled (p : Packet) : Type 0 where
  pub short : HasShortBytes p.body
  pub spelled : HasSpelling (frame.Packet p)

-- A server that was just opened on a version is such a server, and so is one after each event that a cell brings, at each moment. A
-- server without a write is one too, and a packet of votes or recovery is one of the cell. Each packet of the cell has a spelling, and
-- each call has at most one reply.
pub record WritesSpread : Type 0 where
  pub first : (db : Database) (servers : ℕ) (d : Durable) (now : ℕ) → IsVersion d.version →
      IsKeeping db servers (opened_server servers d now)
  pub steps : (db : Database) (m : Member) (s : Server) (now : ℕ) (e : NodeEvent) (short : List Bool) →
      m.me < cell_size m → IsMoment now → IsKeeping db (cell_size m) s → IsBrought m e → IsWriteStep db m s e (step_of db m s now e short)
  pub lines : LinesCount
  pub whole : (hosts : List Host) (p : Packet) → IsCellPacket hosts p → IsSpelled p
  pub of_server : (db : Database) (servers : ℕ) (s : Server) → HasNoWrite servers s → IsKeeping db servers s
  pub of_packet : (hosts : List Host) (p : Packet) → IsRecoveryPacket hosts p → IsCellPacket hosts p
