-- Packets that carry no vote and ask for none: all but those of the rules of votes are such.
use Rattle.std.proofs.Common.{Bool, true, false, cond, ◌==◌, ℕ, zero, suc, ◌+◌, List, [], ◌∷◌, ◌++◌, map}
use Rattle.std.specs.Prelude.{Option, Some, None}
use Rattle.ubik_types.specs.declared.hosts.Host.{Host}
use Rattle.ubik_types.specs.declared.phases.Phase.{Phase}
use Rattle.ubik_types.specs.declared.phases.Applied.TheVariants as applied
use Rattle.ubik_types.specs.declared.versions.Version.{Version}
use Rattle.ubik_types.specs.Phase.{Polled}
use Rattle.ubik_types.specs.Version.{version_eq}
use Rattle.ubik_calls.specs.declared.packets.Body.{Body}
use Rattle.ubik_calls.specs.declared.packets.Body.TheVariants as body
use Rattle.ubik_calls.specs.declared.replies.Reply.{Reply}
use Rattle.db_image.specs.declared.services.CallReply.{CallReply}
use Rattle.db_image.specs.declared.services.CallReply.TheVariants as call_reply
use Rattle.cell_model.specs.declared.events.Output.{Output}
use Rattle.cell_model.specs.declared.events.Output.TheVariants as output
use Rattle.cell_model.specs.Asks.{read_reply}
use Rattle.cell_model.specs.Lapse.{no_quorum, flight_refused, waiting_refused, writes_refused}
use Rattle.cell_model.specs.Node.{Server, Flight, Waiting}
use Rattle.cell_model.specs.Pieces.{piece_count}
use Rattle.cell_model.specs.Recovery.{spread_to, spread_answer, spread_bodies}
use Rattle.cell_model.specs.Step.{Member, Evaluation, Shown, packet_to, sent, sends_from, sends_to_each}
use Rattle.cell_model.specs.Writes.{put_pieces, write_bodies}

abbrev pub IsOther : Body → Type 0
IsOther (body.Beacon start claim ready version) = ⊥
IsOther (body.Vote start granted) = ⊥
IsOther _ = Unit {0}

abbrev pub IsOtherOutput : Output → Type 0
IsOtherOutput (output.Send packet) = IsOther packet.body
IsOtherOutput _ = Unit {0}

abbrev pub AllOther : List Shown → Type 0
AllOther [] = Unit {0}
AllOther (one ∷ shown) = IsOtherOutput one.output × AllOther shown

abbrev pub AllOtherBodies : List Body → Type 0
AllOtherBodies [] = Unit {0}
AllOtherBodies (b ∷ bodies) = IsOther b × AllOtherBodies bodies

pub other_append : (shown more : List Shown) → AllOther shown → AllOther more → AllOther (shown ++ more)
other_append [] more all rest = rest
other_append (one ∷ shown) more all rest = (all.0, other_append shown more all.1 rest)

pub bodies_append : (bodies more : List Body) → AllOtherBodies bodies → AllOtherBodies more → AllOtherBodies (bodies ++ more)
bodies_append [] more all rest = rest
bodies_append (b ∷ bodies) more all rest = (all.0, bodies_append bodies more all.1 rest)

pub sent_other : (m : Member) (host : Host) (bodies : List Body) → AllOtherBodies bodies →
    AllOther (map (λ (b : Body). sent (packet_to m host b)) bodies)
sent_other m host [] all = tt
sent_other m host (b ∷ bodies) all = (all.0, sent_other m host bodies all.1)

pub other_if : (b : Bool) (x y : List Shown) → AllOther x → AllOther y → AllOther (cond b x y)
other_if true x y first second = first
other_if false x y first second = second

pub bodies_if : (b : Bool) (x y : List Body) → AllOtherBodies x → AllOtherBodies y → AllOtherBodies (cond b x y)
bodies_if true x y first second = first
bodies_if false x y first second = second

pub sends_from_other : (m : Member) (k : ℕ) (hosts : List Host) (bodies : ℕ → List Body) → ((k : ℕ) → AllOtherBodies (bodies k)) →
    AllOther (sends_from m k hosts bodies)
sends_from_other m k [] bodies all = tt
sends_from_other m k (host ∷ hosts) bodies all =
    other_append (cond (k == m.me) [] (map (λ (b : Body). sent (packet_to m host b)) (bodies k))) (sends_from m (k + 1) hosts bodies)
    (other_if (k == m.me) [] _ tt (sent_other m host (bodies k) (all k)))
    (sends_from_other m (k + 1) hosts bodies all)

pub sends_other : (m : Member) (bodies : ℕ → List Body) → ((k : ℕ) → AllOtherBodies (bodies k)) → AllOther (sends_to_each m bodies)
sends_other m bodies all = sends_from_other m 0 m.hosts bodies all

pub put_other : (new : Version) (text : List ℕ) (number left : ℕ) → AllOtherBodies (put_pieces new text number left)
put_other new text number zero = tt
put_other new text number (suc left) = (tt, put_other new text (number + 1) left)

pub write_other : (old new : Version) (text : List ℕ) → AllOtherBodies (write_bodies old new text)
write_other old new text = (
  tt,
  bodies_append (put_pieces new text 0 (piece_count text)) (body.Commit old new ∷ []) (put_other new text 0 (piece_count text)) (tt, tt),
)

pub spread_to_other : (s : Server) (poll : ℕ) (old : Version) (has_old : Bool) → IsOther (spread_to s poll old has_old)
spread_to_other s poll old true = tt
spread_to_other s poll old false = tt

pub answer_other : (s : Server) (poll : Polled) (old : Version) (v : Option Version) → AllOtherBodies (spread_answer s poll old v)
answer_other s poll old None = tt
answer_other s poll old (Some v) = (spread_to_other s poll.number old (version_eq v old), tt)

pub spread_other : (s : Server) (poll : Polled) (announced : Version) (f : Option Flight) →
    AllOtherBodies (spread_bodies s poll announced f)
spread_other s poll announced None = (tt, tt)
spread_other s poll announced (Some f) = write_other announced s.version _

pub waiting_other : (waiting : List Waiting) (r : Reply) → AllOther (waiting_refused waiting r)
waiting_other [] r = tt
waiting_other (w ∷ waiting) r = (tt, waiting_other waiting r)

pub flight_other : (f : Option Flight) (r : Reply) → AllOther (flight_refused f r)
flight_other None r = tt
flight_other (Some f) r = (tt, tt)

pub refused_other : (m : Member) (s : Server) (now : ℕ) (phase : Phase) → AllOther (writes_refused m s now phase)
refused_other m s now phase =
    other_append (flight_refused s.flight (no_quorum m s now phase applied.Unknown)) _ (flight_other s.flight _) (waiting_other s.waiting _)

pub read_other : (id : ℕ) (e : Evaluation) (r : CallReply) → AllOther (read_reply id e r ∷ [])
read_other id e (call_reply.Done answer) = (tt, tt)
read_other id e (call_reply.Rule number) = (tt, tt)
read_other id e call_reply.Malformed = (tt, tt)
read_other id e (call_reply.BadRecord at) = (tt, tt)
