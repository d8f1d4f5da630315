-- Packets that are shown go from host to host of the cell.
use Rattle.std.proofs.Common.{Bool, true, false, cond, ◌==◌, ℕ, ◌+◌, ◌<◌, List, [], ◌∷◌, ◌++◌, map}
use Rattle.std.proofs.lemmas.List.Elements.{All-nil, All-cons}
use Rattle.std.specs.List.{AllByRecursion}
use Rattle.std.specs.Prelude.{Option, Some, None, All}
use Rattle.ubik_types.specs.declared.hosts.Host.{Host}
use Rattle.ubik_types.specs.declared.phases.Phase.{Phase}
use Rattle.ubik_types.specs.declared.phases.Applied.TheVariants as applied
use Rattle.ubik_calls.specs.declared.packets.Body.{Body}
use Rattle.ubik_calls.specs.declared.replies.Reply.{Reply}
use Rattle.db_image.specs.declared.services.CallReply.{CallReply}
use Rattle.db_image.specs.declared.services.CallReply.TheVariants as call_reply
use Rattle.cell_model.specs.declared.events.Output.{Output}
use Rattle.cell_model.specs.declared.events.Output.TheVariants as output
use Rattle.cell_model.specs.Asks.{read_reply}
use Rattle.cell_model.specs.Lapse.{no_quorum, flight_refused, waiting_refused, writes_refused}
use Rattle.cell_model.specs.Node.{Server, Flight, Waiting}
use Rattle.cell_model.specs.Step.{Member, cell_size, Evaluation, Shown, Stepped, followed, packet_to, sent, sends_to, sends_from, sends_to_each}
use Rattle.cell_model.specs.World.{packets_of}
use Rattle.cell_places.specs.Places.{IsPhaseOf, IsBetween, IsPlacedStep}
use Rattle.cell_places.proofs.Hosts.{HasPlace, all_placed, host_placed}

abbrev pub OutputPlaced : List Host → Output → Type 0
OutputPlaced hosts (output.Send p) = IsBetween hosts p
OutputPlaced hosts _ = Unit {0}

abbrev pub AllPlaced : List Host → List Shown → Type 0
AllPlaced hosts [] = Unit {0}
AllPlaced hosts (one ∷ shown) = OutputPlaced hosts one.output × AllPlaced hosts shown

placed_packets : (hosts : List Host) (shown : List Shown) → AllPlaced hosts shown → All (IsBetween hosts) (packets_of shown)
placed_packets hosts [] all = All-nil (IsBetween hosts)
placed_packets hosts (one ∷ shown) all = by one.output one.evaluation all.0 (placed_packets hosts shown all.1)
  where
    by : (o : Output) (evaluation : Option Evaluation) → OutputPlaced hosts o → All (IsBetween hosts) (packets_of shown) →
        All (IsBetween hosts) (packets_of (record { output = o; evaluation = evaluation } ∷ shown))
    by (output.Send p) evaluation first rest = All-cons (IsBetween hosts) p (packets_of shown) first rest
    by (output.Reply id r) evaluation first rest = rest
    by (output.Announce version) evaluation first rest = rest

pub placed_append : (hosts : List Host) (shown more : List Shown) → AllPlaced hosts shown → AllPlaced hosts more →
    AllPlaced hosts (shown ++ more)
placed_append hosts [] more first second = second
placed_append hosts (one ∷ shown) more first second = (first.0, placed_append hosts shown more first.1 second)

-- a part of a step, and then the next
pub record Placed (m : Member) (t : Stepped) : Type 0 where
  pub phase : IsPhaseOf (cell_size m) t.server.phase
  pub shown : AllPlaced m.hosts t.shown

pub placed_step : (m : Member) (t : Stepped) → Placed m t → IsPlacedStep m t
placed_step m t is = record { phase = is.phase; packets = placed_packets m.hosts t.shown is.shown }

pub follows : (m : Member) (t : Stepped) (next : Server → Stepped) → Placed m t →
    (IsPhaseOf (cell_size m) t.server.phase → Placed m (next t.server)) → Placed m (followed t next)
follows m t next first second = by (second first.phase)
  where
    by : Placed m (next t.server) → Placed m (followed t next)
    by then = record { phase = then.phase; shown = placed_append m.hosts t.shown (next t.server).shown first.shown then.shown }

-- ---- packets

module _ (m : Member) (inside : m.me < cell_size m) where
  packet_placed : (host : Host) (b : Body) → HasPlace m.hosts host → IsBetween m.hosts (packet_to m host b)
  packet_placed host b there = record { sender = host_placed m.hosts m.me inside; receiver = there }

  -- one packet to a host of the cell
  pub one_placed : (host : Host) (b : Body) → HasPlace m.hosts host → AllPlaced m.hosts (sends_to m host b)
  one_placed host b there = (packet_placed host b there, tt)

  sent_placed : (host : Host) (bodies : List Body) → HasPlace m.hosts host →
      AllPlaced m.hosts (map (λ (b : Body). sent (packet_to m host b)) bodies)
  sent_placed host [] there = tt
  sent_placed host (b ∷ bodies) there = (packet_placed host b there, sent_placed host bodies there)

  placed_if : (test : Bool) (shown : List Shown) → AllPlaced m.hosts shown → AllPlaced m.hosts (cond test [] shown)
  placed_if true shown all = tt
  placed_if false shown all = all

  sends_placed : (k : ℕ) (hosts : List Host) (bodies : ℕ → List Body) → AllByRecursion (HasPlace m.hosts) hosts →
      AllPlaced m.hosts (sends_from m k hosts bodies)
  sends_placed k [] bodies there = tt
  sends_placed k (host ∷ hosts) bodies there =
      placed_append m.hosts (cond (k == m.me) [] (map (λ (b : Body). sent (packet_to m host b)) (bodies k)))
      (sends_from m (k + 1) hosts bodies)
      (placed_if (k == m.me) (map (λ (b : Body). sent (packet_to m host b)) (bodies k)) (sent_placed host (bodies k) there.0))
      (sends_placed (k + 1) hosts bodies there.1)

  -- packets to each other server
  pub each_placed : (bodies : ℕ → List Body) → AllPlaced m.hosts (sends_to_each m bodies)
  each_placed bodies = sends_placed 0 m.hosts bodies (all_placed m.hosts)

-- ---- replies

pub waiting_placed : (hosts : List Host) (waiting : List Waiting) (r : Reply) → AllPlaced hosts (waiting_refused waiting r)
waiting_placed hosts [] r = tt
waiting_placed hosts (w ∷ waiting) r = (tt, waiting_placed hosts waiting r)

flight_placed : (hosts : List Host) (f : Option Flight) (r : Reply) → AllPlaced hosts (flight_refused f r)
flight_placed hosts None r = tt
flight_placed hosts (Some f) r = (tt, tt)

pub refused_placed : (m : Member) (s : Server) (now : ℕ) (phase : Phase) → AllPlaced m.hosts (writes_refused m s now phase)
refused_placed m s now phase =
    placed_append m.hosts (flight_refused s.flight (no_quorum m s now phase applied.Unknown))
    (waiting_refused s.waiting (no_quorum m s now phase applied.No)) (flight_placed m.hosts s.flight _)
    (waiting_placed m.hosts s.waiting _)

pub reply_placed : (hosts : List Host) (id : ℕ) (e : Evaluation) (r : CallReply) → AllPlaced hosts (read_reply id e r ∷ [])
reply_placed hosts id e (call_reply.Done answer) = (tt, tt)
reply_placed hosts id e (call_reply.Rule number) = (tt, tt)
reply_placed hosts id e call_reply.Malformed = (tt, tt)
reply_placed hosts id e (call_reply.BadRecord at) = (tt, tt)
