-- A server that takes part in votes, and in recovery and in writes in a cell of one alone: what it takes, and what it sends (own).
use Rattle.std.specs.Prelude.{ℕ, ◌≡◌, ◌<◌, ◌⊎◌, Bool, Option, Some, None, IsSome, IsSomeAnd, All, List, [], ◌∷◌}
use Rattle.ubik_types.specs.declared.hosts.Host.{Host}
use Rattle.ubik_types.specs.declared.versions.Version.{Version}
use Rattle.ubik_types.specs.Phase.{PhaseRecord, NoPhase, Poll, Fetch, Relabel, Send, Ready}
use Rattle.ubik_calls.specs.declared.packets.Packet.{Packet}
use Rattle.ubik_calls.specs.declared.packets.Body.{Body}
use Rattle.ubik_calls.specs.declared.packets.Body.TheVariants.{Beacon, Vote}
use Rattle.ubik_calls.specs.declared.replies.Reply.TheVariants as reply
use Rattle.db_image.specs.Database.{Database}
use Rattle.cell_model.specs.declared.events.NodeEvent.{NodeEvent}
use Rattle.cell_model.specs.declared.events.NodeEvent.TheVariants as event
use Rattle.cell_model.specs.declared.events.Output.{Output}
use Rattle.cell_model.specs.declared.events.Output.TheVariants as output
use Rattle.cell_model.specs.Durable.{Durable}
use Rattle.cell_model.specs.Node.{Server, opened_server}
use Rattle.cell_model.specs.NodeRule.{place_of, step_of}
use Rattle.cell_model.specs.Step.{Member, cell_size, Evaluation, Shown, Stepped}
use Rattle.cell_model.specs.World.{packets_of}

-- a packet that asks for a vote, or gives one
abbrev pub IsOfVotes : Body → Type 0
IsOfVotes (Beacon start claim ready version) = Unit {0}
IsOfVotes (Vote start granted) = Unit {0}
IsOfVotes _ = ⊥

-- the event is built for this server: recovery and writes are built for a cell of one
abbrev pub IsBuilt : Member → NodeEvent → Type 0
IsBuilt m (event.Packet p) = IsOfVotes p.body
IsBuilt m event.BeaconTurn = Unit {0}
IsBuilt m event.RecoverTurn = cell_size m ≡ 1
IsBuilt m (event.Ask id call) = Unit {0}

-- a packet of votes from a host of the cell to one of the cell
pub record IsVotePacket (hosts : List Host) (p : Packet) : Type 0 where
  pub votes : IsOfVotes p.body
  pub sender : IsSome (place_of hosts p.from)
  pub receiver : IsSome (place_of hosts p.to)

-- the event is built for this server, and a packet goes from host to host of the cell
abbrev pub IsTaken : Member → NodeEvent → Type 0
IsTaken m (event.Packet p) = IsVotePacket m.hosts p
IsTaken m e = IsBuilt m e

-- A poll knows the own version alone; nothing is fetched, and nothing is sent; the own version is the announced one.
abbrev pub IsAlonePhase : Version → PhaseRecord → Type 0
IsAlonePhase own NoPhase = Unit {0}
IsAlonePhase own (Poll poll) = poll.answers ≡ Some own ∷ []
IsAlonePhase own (Fetch poll best host) = ⊥
IsAlonePhase own (Relabel poll) = Unit {0}
IsAlonePhase own (Send poll spread) = ⊥
IsAlonePhase own (Ready poll spread announced) = announced ≡ own

-- A server that takes part in votes: it has no phase, or is alone in its cell; no write is in flight, and none waits.
pub record IsVoter (m : Member) (s : Server) : Type 0 where
  pub phase : (s.phase ≡ NoPhase) ⊎ ((cell_size m ≡ 1) × IsAlonePhase s.version s.phase)
  pub flight : s.flight ≡ None
  pub waiting : s.waiting ≡ []

-- A step after which it still is one. It sends packets of votes alone, and makes a durable call only where it is alone.
pub record IsVoterStep (m : Member) (t : Stepped) : Type 0 where
  pub server : IsVoter m t.server
  pub packets : All (IsVotePacket m.hosts) (packets_of t.shown)
  pub rests : 1 < cell_size m → t.calls ≡ []

-- an Ok tells of the evaluation of this call
abbrev pub IsOkOf : List ℕ → Output → Option Evaluation → Type 0
IsOkOf call (output.Reply id (reply.Ok answer)) evaluation = IsSomeAnd evaluation (λ e. e.call ≡ call)
IsOkOf call _ evaluation = Unit {0}

abbrev pub AnswersCall : List ℕ → Shown → Type 0
AnswersCall call one = IsOkOf call one.output one.evaluation

-- the event asks this call, or none
abbrev pub AsksNoOther : NodeEvent → List ℕ → Type 0
AsksNoOther (event.Ask id other) call = other ≡ call
AsksNoOther _ call = Unit {0}

-- A server that was just opened takes part in votes, and so does one after each event that it takes, in which it sends packets of
-- votes alone; and each Ok answers the call that is asked in that event.
pub record VotersVote : Type 0 where
  pub first : (m : Member) (durable : Durable) (now : ℕ) → IsVoter m (opened_server (cell_size m) durable now)
  pub steps : (db : Database) (m : Member) (s : Server) (now : ℕ) (e : NodeEvent) (short : List Bool)
      → m.me < cell_size m → IsVoter m s → IsTaken m e → IsVoterStep m (step_of db m s now e short)
  pub answers : (db : Database) (m : Member) (s : Server) (now : ℕ) (e : NodeEvent) (short : List Bool) (call : List ℕ)
      → m.me < cell_size m → IsVoter m s → IsTaken m e → AsksNoOther e call
      → All (AnswersCall call) (step_of db m s now e short).shown
