-- Packets go from host to host of the cell, whatever happens (own).
use Rattle.std.specs.Prelude.{ℕ, ◌≡◌, ◌<◌, Bool, IsSome, All, List, length}
use Rattle.ubik_types.specs.declared.hosts.Host.{Host}
use Rattle.ubik_types.specs.Phase.{Polled, PhaseRecord, NoPhase, Poll, Fetch, Relabel, Send, Ready}
use Rattle.ubik_calls.specs.declared.packets.Packet.{Packet}
use Rattle.db_image.specs.Database.{Database}
use Rattle.cell_model.specs.declared.events.NodeEvent.{NodeEvent}
use Rattle.cell_model.specs.Durable.{Durable}
use Rattle.cell_model.specs.Node.{Server, opened_server}
use Rattle.cell_model.specs.NodeRule.{place_of, step_of}
use Rattle.cell_model.specs.Step.{Member, cell_size, Stepped}
use Rattle.cell_model.specs.World.{packets_of}

-- a poll has a place for the answer of each server of the cell
abbrev pub IsPollOf : (servers : ℕ) → Polled → Type 0
IsPollOf servers poll = length poll.answers ≡ servers

-- and the database is fetched from a server of the cell
abbrev pub IsPhaseOf : (servers : ℕ) → PhaseRecord → Type 0
IsPhaseOf servers NoPhase = Unit {0}
IsPhaseOf servers (Poll poll) = IsPollOf servers poll
IsPhaseOf servers (Fetch poll best host) = IsPollOf servers poll × (host < servers)
IsPhaseOf servers (Relabel poll) = IsPollOf servers poll
IsPhaseOf servers (Send poll spread) = IsPollOf servers poll
IsPhaseOf servers (Ready poll spread announced) = IsPollOf servers poll

-- a packet from a host of the cell to one of the cell
pub record IsBetween (hosts : List Host) (p : Packet) : Type 0 where
  pub sender : IsSome (place_of hosts p.from)
  pub receiver : IsSome (place_of hosts p.to)

pub record IsPlacedStep (m : Member) (t : Stepped) : Type 0 where
  pub phase : IsPhaseOf (cell_size m) t.server.phase
  pub packets : All (IsBetween m.hosts) (packets_of t.shown)

-- So is the phase of a server that was just opened, and that of one after each event; and each packet that it sends goes from host to host
-- of the cell.
pub record PacketsHavePlaces : Type 0 where
  pub first : (servers : ℕ) (d : Durable) (now : ℕ) → IsPhaseOf servers (opened_server servers d now).phase
  pub steps : (db : Database) (m : Member) (s : Server) (now : ℕ) (e : NodeEvent) (short : List Bool) →
      m.me < cell_size m → IsPhaseOf (cell_size m) s.phase → IsPlacedStep m (step_of db m s now e short)
