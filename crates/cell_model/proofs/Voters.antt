-- A server that takes part in votes stays one, and sends packets of votes alone.
use Rattle.std.proofs.Common.{Bool, true, false, true≢false, cond, ◌==◌, ◌≡◌, ℕ, zero, suc, ◌+◌, ◌<◌, List, [], ◌∷◌, ◌++◌, length, slice_get, refl, sym, ap, subst, ◌∙◌, ◌⊎◌, inl, inr, arith}
use Rattle.std.specs.List.{position_or_len}
use Rattle.std.proofs.lemmas.Bool.{cond_both}
use Rattle.std.proofs.lemmas.Bool.Decides.{nat_tests}
use Rattle.std.proofs.lemmas.List.Elements.{All-nil, All-cons, All-head, All-tail, All-weaker}
use Rattle.std.specs.Prelude.{Option, Some, None, IsSome, All, nat_lt}
use Rattle.ubik_types.specs.declared.hosts.Host.{Host}
use Rattle.ubik_types.specs.declared.images.Change.{Change}
use Rattle.ubik_types.specs.declared.versions.TheConstants.{MAX_COUNTER}
use Rattle.ubik_types.specs.declared.versions.Version.{Version}
use Rattle.ubik_types.specs.declared.phases.Phase.TheVariants as phases
use Rattle.ubik_types.specs.declared.phases.Applied.TheVariants as applied
use Rattle.ubik_types.specs.Logged.{too_large}
use Rattle.ubik_types.specs.Version.{zero_version, version_lt}
use Rattle.ubik_types.specs.Votes.{beacon_is_due, answers_yes, sync_heard}
use Rattle.ubik_types.specs.Phase.{Polled, PhaseRecord, NoPhase, Poll, Fetch, Relabel, Send, Ready}
use Rattle.ubik_calls.specs.declared.packets.Packet.{Packet}
use Rattle.ubik_calls.specs.declared.packets.Body.{Body}
use Rattle.ubik_calls.specs.declared.packets.Body.TheVariants as body
use Rattle.ubik_calls.specs.declared.replies.Reply.{Reply}
use Rattle.ubik_calls.specs.declared.replies.Reply.TheVariants as reply
use Rattle.db_image.specs.declared.services.CallReply.{CallReply}
use Rattle.db_image.specs.declared.services.CallReply.TheVariants as call_reply
use Rattle.db_image.specs.Database.{Database, changes_of}
use Rattle.cell_model.specs.declared.events.NodeEvent.{NodeEvent}
use Rattle.cell_model.specs.declared.events.NodeEvent.TheVariants as event
use Rattle.cell_model.specs.declared.events.Output.{Output}
use Rattle.cell_model.specs.declared.events.Output.TheVariants as output
use Rattle.cell_model.specs.Asks.{read_reply, read, write_asked, served, allows_reads, not_served, asked_elsewhere, asked_as}
use Rattle.cell_model.specs.Evaluating.{always}
use Rattle.cell_model.specs.Lapse.{no_quorum, writes_refused, without_writes, write_lapsed, waiting_refused}
use Rattle.cell_model.specs.Node.{Server, Flight, Waiting}
use Rattle.cell_model.specs.NodeRule.{place_of, received_from, received_packet, handled, step_of, step_by}
use Rattle.cell_model.specs.Polls.{polling, best_answer}
use Rattle.cell_model.specs.Recovery.{relabelled, polled, poll_begun, recovered}
use Rattle.cell_model.specs.Step.{Member, cell_size, Basis, Announced_image, Beacon_image, Evaluation, Shown, Stepped, quiet, showing, followed, leased, is_ready, told_version, with_phase, host_at, packet_to, sent, sends_from, refusing, is_short, short_after}
use Rattle.cell_model.specs.Voters.{IsOfVotes, IsVotePacket, IsTaken, IsAlonePhase, IsVoter, IsOkOf, AnswersCall, AsksNoOther, VotersVote}
use Rattle.cell_model.specs.Voting.{own_beacon, beacon_turn}
use Rattle.cell_model.specs.World.{packets_of}
use Rattle.cell_model.specs.Writes.{announced_image, written_in, written_small, written_within, turned, last_counter}
use Rattle.cell_model.proofs.StepKinds.{one_of, none_refused, lt_itself, lt_zero}

-- ---- hosts of the cell

reached : (hosts : List Host) (i : ℕ) (host : Host) → slice_get hosts i ≡ Some host
    → position_or_len (λ (other : Host). other.0 == host.0) hosts < length hosts
reached [] i host at = cc
reached (a ∷ hosts) zero host at = let same : a ≡ host = cc in let number = ap (λ (x : Host). x.0) same in grind (arith, nat_tests)
reached (a ∷ hosts) (suc i) host at = let rest = reached hosts i host at in grind (arith, nat_tests)

pub place_there : (hosts : List Host) (host : Host) (i : ℕ) → slice_get hosts i ≡ Some host → IsSome (place_of hosts host)
place_there hosts host i at = let inside = reached hosts i host at in grind (arith, nat_tests)

-- the host of a place of the cell
at_place : (hosts : List Host) (k : ℕ) → k < length hosts → slice_get hosts k ≡ Some (host_at hosts k)
at_place [] k inside = absurd (omega arith)
at_place (a ∷ hosts) zero inside = refl
at_place (a ∷ hosts) (suc k) inside = at_place hosts k (omega arith)

-- the host is at a place of the list
abbrev IsThere : List Host → Host → Type 0
IsThere hosts host = (k : ℕ) × (slice_get hosts k ≡ Some host)

abbrev HasPlace : List Host → Host → Type 0
HasPlace hosts host = IsSome (place_of hosts host)

pub own_place : (m : Member) → m.me < cell_size m → HasPlace m.hosts (host_at m.hosts m.me)
own_place m inside = place_there m.hosts (host_at m.hosts m.me) m.me (at_place m.hosts m.me inside)

-- each host of a list is at its place
all_there : (hosts : List Host) → All (IsThere hosts) hosts
all_there [] = All-nil _
all_there (a ∷ hosts) =
    All-cons (IsThere (a ∷ hosts)) a hosts (0, refl)
    (All-weaker (IsThere hosts) (IsThere (a ∷ hosts)) (λ host there. (suc there.0, there.1)) hosts (all_there hosts))

all_placed : (hosts : List Host) → All (HasPlace hosts) hosts
all_placed hosts =
    All-weaker (IsThere hosts) (HasPlace hosts) (λ host there. place_there hosts host there.0 there.1) hosts (all_there hosts)

-- ---- what a step shows

-- packets of votes alone, and no Ok but the answer to what is asked
abbrev IsFine : Member → NodeEvent → Output → Option Evaluation → Type 0
IsFine m e (output.Send p) evaluation = IsVotePacket m.hosts p
IsFine m e (output.Reply id r) evaluation = (call : List ℕ) → AsksNoOther e call → IsOkOf call (output.Reply id r) evaluation
IsFine m e (output.Announce version) evaluation = Unit {0}

abbrev AllFine : Member → NodeEvent → List Shown → Type 0
AllFine m e [] = Unit {0}
AllFine m e (one ∷ shown) = IsFine m e one.output one.evaluation × AllFine m e shown

record Votes (m : Member) (e : NodeEvent) (t : Stepped) : Type 0 where
  pub server : IsVoter m t.server
  pub shown : AllFine m e t.shown
  pub rests : 1 < cell_size m → t.calls ≡ []

fine_packets : (m : Member) (e : NodeEvent) (shown : List Shown) → AllFine m e shown → All (IsVotePacket m.hosts) (packets_of shown)
fine_packets m e [] fine = All-nil _
fine_packets m e (one ∷ shown) fine = by one.output one.evaluation fine.0 (fine_packets m e shown fine.1)
  where
    by : (o : Output) (evaluation : Option Evaluation) → IsFine m e o evaluation → All (IsVotePacket m.hosts) (packets_of shown)
        → All (IsVotePacket m.hosts) (packets_of (record { output = o; evaluation = evaluation } ∷ shown))
    by (output.Send p) evaluation first rest = All-cons (IsVotePacket m.hosts) p (packets_of shown) first rest
    by (output.Reply id r) evaluation first rest = rest
    by (output.Announce version) evaluation first rest = rest

fine_answers : (m : Member) (e : NodeEvent) (call : List ℕ) (shown : List Shown) → AsksNoOther e call → AllFine m e shown
    → All (AnswersCall call) shown
fine_answers m e call [] asks fine = All-nil _
fine_answers m e call (one ∷ shown) asks fine =
    All-cons (AnswersCall call) one shown (by one.output one.evaluation fine.0) (fine_answers m e call shown asks fine.1)
  where
    by : (o : Output) (evaluation : Option Evaluation) → IsFine m e o evaluation → IsOkOf call o evaluation
    by (output.Send p) evaluation first = tt
    by (output.Reply id r) evaluation first = first call asks
    by (output.Announce version) evaluation first = tt

-- the server stays one where these fields stay
rests_as : (m : Member) (e : NodeEvent) (t : Stepped) → IsVoter m t.server → AllFine m e t.shown → t.calls ≡ [] → Votes m e t
rests_as m e t voter fine none = record { server = voter; shown = fine; rests = λ _. none }

-- ---- packets and beacons

module _ (m : Member) (s : Server) (now : ℕ) (inside : m.me < cell_size m) (voter : IsVoter m s) where
  quiet_votes : (e : NodeEvent) → Votes m e (quiet s)
  quiet_votes e = rests_as m e (quiet s) voter tt refl

  one_reply : (e : NodeEvent) (id : ℕ) (r : Reply) (evaluation : Option Evaluation)
      → ((call : List ℕ) → AsksNoOther e call → IsOkOf call (output.Reply id r) evaluation)
      → Votes m e (showing s (record { output = output.Reply id r; evaluation = evaluation } ∷ []))
  one_reply e id r evaluation fine =
      rests_as m e (showing s (record { output = output.Reply id r; evaluation = evaluation } ∷ [])) voter (fine, tt) refl

  vote_packet : (host : Host) (b : Body) → IsOfVotes b → HasPlace m.hosts host → IsVotePacket m.hosts (packet_to m host b)
  vote_packet host b votes there = record { votes = votes; sender = own_place m inside; receiver = there }

  all_sent : (e : NodeEvent) (b : Body) (k : ℕ) (hosts : List Host) → IsOfVotes b → All (HasPlace m.hosts) hosts
      → AllFine m e (sends_from m k hosts (λ at. b ∷ []))
  all_sent e b k [] votes there = tt
  all_sent e b k (host ∷ hosts) votes there =
      let rest = all_sent e b (k + 1) hosts votes (All-tail (HasPlace m.hosts) host hosts there) in
      cond_both (k == m.me) [] (sent (packet_to m host b) ∷ [])
      (λ (front : List Shown). AllFine m e (front ++ sends_from m (k + 1) hosts (λ at. b ∷ [])))
      (λ _. rest) (λ _. (vote_packet host b votes (All-head (HasPlace m.hosts) host hosts there), rest))

  packet_votes : (db : Database) (p : Packet) (k : ℕ) (b : Body) (short : List Bool) → IsOfVotes b → HasPlace m.hosts p.from
      → Votes m (event.Packet p) (received_from (always db) m s now p.from k b short)
  packet_votes db p k (body.Beacon start claim ready version) short votes there =
      rests_as m (event.Packet p) (received_from (always db) m s now p.from k (body.Beacon start claim ready version) short)
      (record { phase = voter.phase; flight = voter.flight; waiting = voter.waiting })
      (vote_packet p.from (body.Vote start (answers_yes s.votes now k claim)) tt there, tt) refl
  packet_votes db p k (body.Vote start granted) short votes there =
      rests_as m (event.Packet p) (received_from (always db) m s now p.from k (body.Vote start granted) short)
      (record { phase = voter.phase; flight = voter.flight; waiting = voter.waiting }) tt refl
  packet_votes db p k (body.GetVersion poll) short votes there = absurd votes
  packet_votes db p k (body.VersionIs poll version) short votes there = absurd votes
  packet_votes db p k (body.GetPiece poll version offset) short votes there = absurd votes
  packet_votes db p k (body.Piece poll version total offset bytes) short votes there = absurd votes
  packet_votes db p k (body.SendPiece poll version total offset bytes) short votes there = absurd votes
  packet_votes db p k (body.PieceKept poll version next) short votes there = absurd votes
  packet_votes db p k (body.SetVersion poll old new) short votes there = absurd votes
  packet_votes db p k (body.Begin old new pieces len) short votes there = absurd votes
  packet_votes db p k (body.PutPiece new number bytes) short votes there = absurd votes
  packet_votes db p k (body.Commit old new) short votes there = absurd votes
  packet_votes db p k (body.Abort new) short votes there = absurd votes
  packet_votes db p k (body.VersionKept version) short votes there = absurd votes

  received_votes : (db : Database) (p : Packet) (short : List Bool) (place : Option ℕ) → IsVotePacket m.hosts p
      → Votes m (event.Packet p) (received_packet (always db) m s now p short place)
  received_votes db p short None taken = quiet_votes (event.Packet p)
  received_votes db p short (Some k) taken = packet_votes db p k p.body short taken.votes taken.sender

  beacon_votes : Votes m event.BeaconTurn (beacon_turn m s now)
  beacon_votes =
      cond_both (beacon_is_due s.votes now m.me (leased m s now)) _ _ (Votes m event.BeaconTurn)
      (λ _. rests_as m event.BeaconTurn _ (record { phase = voter.phase; flight = voter.flight; waiting = voter.waiting })
      (all_sent event.BeaconTurn (own_beacon s now (leased m s now)) 0 m.hosts tt (all_placed m.hosts)) refl)
      (λ _. quiet_votes event.BeaconTurn)

  -- ---- calls that are read or refused

  module _ (db : Database) (id : ℕ) (call : List ℕ) where
    refused_votes : (r : Reply) → ((other : List ℕ) → IsOkOf other (output.Reply id r) None)
        → Votes m (event.Ask id call) (showing s (refusing id r ∷ []))
    refused_votes r fine = one_reply (event.Ask id call) id r None (λ other _. fine other)

    answer_votes : (basis : Basis) (r : CallReply)
        → Votes m (event.Ask id call) (showing s (read_reply id (record { call = call; moment = now; basis = basis }) r ∷ []))
    answer_votes basis (call_reply.Done answer) =
        one_reply (event.Ask id call) id (reply.Ok answer) (Some (record { call = call; moment = now; basis = basis })) (λ other is. is)
    answer_votes basis (call_reply.Rule number) =
        one_reply (event.Ask id call) id (reply.Rule number) (Some (record { call = call; moment = now; basis = basis })) (λ other is. tt)
    answer_votes basis call_reply.Malformed = refused_votes reply.Malformed (λ other. tt)
    answer_votes basis (call_reply.BadRecord at) = refused_votes (reply.BadRecord at) (λ other. tt)

    read_votes : (image : List ℕ) (basis : Basis) (short : Bool) → Votes m (event.Ask id call) (read db s now id call image basis short)
    read_votes image basis true = refused_votes reply.NoMemory (λ other. tt)
    read_votes image basis false = answer_votes basis (db.call image now call).reply

    unserved_votes : (heard : Option (ℕ × ℕ)) → Votes m (event.Ask id call) (showing s (refusing id (not_served m s now heard) ∷ []))
    unserved_votes None = refused_votes _ (λ other. tt)
    unserved_votes (Some heard) =
        cond_both (heard.0 == m.me) _ _ (λ r. Votes m (event.Ask id call) (showing s (refusing id r ∷ [])))
        (λ _. refused_votes _ (λ other. tt)) (λ _. refused_votes _ (λ other. tt))

    elsewhere_votes : (writes short may_read : Bool)
        → Votes m (event.Ask id call) (asked_elsewhere db m s now id call writes short may_read)
    elsewhere_votes true short may_read = unserved_votes (sync_heard now s.votes)
    elsewhere_votes false short true = read_votes s.image (Beacon_image s.version) short
    elsewhere_votes false short false = unserved_votes (sync_heard now s.votes)

    -- a ready server is alone, and a call that writes is its matter
    module _ (written : is_ready s.phase ≡ true → (short : Bool)
        → Votes m (event.Ask id call) (write_asked db m s now id call short s.flight)) where
      served_votes : (writes short : Bool) → is_ready s.phase ≡ true → Votes m (event.Ask id call) (served db m s now id call writes short)
      served_votes true short ready = written ready short
      served_votes false short ready = read_votes (announced_image s) (Announced_image (told_version s.phase s.version)) short

      asked_votes : (short : Bool) (o : Option Bool) → Votes m (event.Ask id call) (asked_as db m s now id call short o)
      asked_votes short None = refused_votes reply.Malformed (λ other. tt)
      asked_votes short (Some writes) =
          cond_both (leased m s now) _ _ (Votes m (event.Ask id call))
          (λ _. cond_both (is_ready s.phase) _ _ (Votes m (event.Ask id call))
          (served_votes writes short) (λ _. refused_votes _ (λ other. tt)))
          (λ _. elsewhere_votes writes short (allows_reads s.version now s.beacon))

-- ---- a server that is alone: recovery and writes

alone_phase : (host : Host) (s : Server) → IsVoter (one_of host) s → IsAlonePhase s.version s.phase
alone_phase host s voter = by voter.phase
  where
    by : (s.phase ≡ NoPhase) ⊎ ((cell_size (one_of host) ≡ 1) × IsAlonePhase s.version s.phase) → IsAlonePhase s.version s.phase
    by (inl none) = let P : PhaseRecord → Type 0 = λ phase. IsAlonePhase s.version phase in subst P (sym none) tt
    by (inr alone) = alone.1

-- a step of a server that is alone may make durable calls
alone_as : (host : Host) (e : NodeEvent) (t : Stepped) → IsAlonePhase t.server.version t.server.phase → t.server.flight ≡ None
    → t.server.waiting ≡ [] → AllFine (one_of host) e t.shown → Votes (one_of host) e t
alone_as host e t phase flight waiting fine = record {
  server = record { phase = inr (refl, phase); flight = flight; waiting = waiting };
  shown = fine;
  rests = λ more. absurd (omega arith);
}

module _ (host : Host) (s : Server) (now : ℕ) (voter : IsVoter (one_of host) s) where
  relabelled_votes : (e : NodeEvent) (poll : Polled) → Votes (one_of host) e (relabelled (one_of host) s poll now)
  relabelled_votes e poll =
      cond_both (nat_lt s.version.epoch now) _ _ (Votes (one_of host) e)
      (λ _. alone_as host e _ refl voter.flight voter.waiting (tt, tt)) (λ _. alone_as host e _ tt voter.flight voter.waiting tt)

  -- the answers are the own version alone: no better one is fetched
  polled_votes : (e : NodeEvent) (number : ℕ) (answers : List (Option Version)) → Some s.version ∷ [] ≡ answers
      → Votes (one_of host) e (polled (one_of host) s (record { number = number; answers = answers }) now)
  polled_votes e number answers is = subst P is own
    where
      P : List (Option Version) → Type 0
      P answers = Votes (one_of host) e (polled (one_of host) s (record { number = number; answers = answers }) now)

      no_better : (b : Bool) → version_lt s.version (cond b s.version zero_version) ≡ false
      no_better true = lt_itself s.version
      no_better false = lt_zero s.version

      own : P (Some s.version ∷ [])
      own =
          cond_both (version_lt s.version (best_answer (record { number = number; answers = Some s.version ∷ [] })))
          _ _ (Votes (one_of host) e)
          (λ better. absurd (true≢false (sym better ∙ no_better (version_lt zero_version s.version))))
          (λ _. relabelled_votes e (record { number = number; answers = Some s.version ∷ [] }))

begun_votes : (host : Host) (s : Server) (now : ℕ) (e : NodeEvent) → IsVoter (one_of host) s
    → Votes (one_of host) e (poll_begun (one_of host) s now)
begun_votes host s now e voter = from (polled_votes host (polling (one_of host) s now) now begun e now (Some s.version ∷ []) refl)
  where
    begun : IsVoter (one_of host) (polling (one_of host) s now)
    begun = record { phase = inr (refl, refl); flight = voter.flight; waiting = voter.waiting }

    from : Votes (one_of host) e (polled (one_of host) (polling (one_of host) s now)
        (record { number = now; answers = Some s.version ∷ [] }) now)
        → Votes (one_of host) e (poll_begun (one_of host) s now)
    from votes = record { server = votes.server; shown = votes.shown; rests = votes.rests }

recovered_votes : (host : Host) (s : Server) (now : ℕ) (e : NodeEvent) (phase : PhaseRecord) → IsVoter (one_of host) s
    → IsAlonePhase s.version phase → Votes (one_of host) e (recovered (one_of host) s now phase)
recovered_votes host s now e NoPhase voter is =
    cond_both (leased (one_of host) s now) _ _ (Votes (one_of host) e) (λ _. begun_votes host s now e voter)
    (λ _. quiet_votes (one_of host) s now (omega arith) voter e)
recovered_votes host s now e (Poll poll) voter is = polled_votes host s now voter e poll.number poll.answers (sym is)
recovered_votes host s now e (Fetch poll best from) voter is = absurd is
recovered_votes host s now e (Relabel poll) voter is = relabelled_votes host s now voter e poll
recovered_votes host s now e (Send poll spread) voter is = absurd is
recovered_votes host s now e (Ready poll spread announced) voter is = quiet_votes (one_of host) s now (omega arith) voter e

module _ (db : Database) (host : Host) (s : Server) (now id : ℕ) (call : List ℕ) (voter : IsVoter (one_of host) s) where
  abbrev Asked : Stepped → Type 0
  Asked t = Votes (one_of host) (event.Ask id call) t

  refusal : (r : Reply) → ((other : List ℕ) → IsOkOf other (output.Reply id r) None) → Asked (showing s (refusing id r ∷ []))
  refusal r fine = refused_votes (one_of host) s now (omega arith) voter db id call r fine

  committed_votes : (answer image : List ℕ) (changes : List Change) (phase : PhaseRecord)
      → Asked (written_in (one_of host) s now id call answer image changes phase)
  committed_votes answer image changes NoPhase = quiet_votes (one_of host) s now (omega arith) voter (event.Ask id call)
  committed_votes answer image changes (Poll poll) = quiet_votes (one_of host) s now (omega arith) voter (event.Ask id call)
  committed_votes answer image changes (Fetch poll best from) = quiet_votes (one_of host) s now (omega arith) voter (event.Ask id call)
  committed_votes answer image changes (Relabel poll) = quiet_votes (one_of host) s now (omega arith) voter (event.Ask id call)
  committed_votes answer image changes (Send poll spread) = quiet_votes (one_of host) s now (omega arith) voter (event.Ask id call)
  committed_votes answer image changes (Ready poll spread announced) =
      alone_as host (event.Ask id call) _ refl refl voter.waiting (tt, ((λ other is. is), tt))

  -- the counter is at its end
  last_votes : Asked (last_counter (one_of host) s now id)
  last_votes = alone_as host (event.Ask id call) _ refl voter.flight refl ((λ other is. tt), none s.waiting voter.waiting)
    where
      none : (waiting : List Waiting) → waiting ≡ []
          → AllFine (one_of host) (event.Ask id call) (waiting_refused waiting (no_quorum (one_of host) s now phases.Poll applied.No))
      none [] is = tt
      none (w ∷ waiting) is = absurd (cc)

  small_votes : (answer image : List ℕ) (changes : List Change) → Asked (written_small (one_of host) s now id call answer image changes)
  small_votes answer image [] =
      answer_votes (one_of host) s now (omega arith) voter db id call (Announced_image (told_version s.phase s.version))
      (call_reply.Done answer)
  small_votes answer image (change ∷ changes) =
      cond_both (s.version.counter == MAX_COUNTER) _ _ Asked (λ _. last_votes)
      (λ _. committed_votes answer image (change ∷ changes) s.phase)

  within_votes : (answer image : List ℕ) (changes : List Change) (passed : Option ℕ)
      → Asked (written_within (one_of host) s now id call answer image changes passed)
  within_votes answer image changes None = small_votes answer image changes
  within_votes answer image changes (Some bytes) = refusal (reply.TooLarge bytes) (λ other. tt)

  turned_votes : (image : List ℕ) (r : CallReply) → Asked (turned db (one_of host) s now id call image r)
  turned_votes image (call_reply.Done answer) =
      within_votes answer image (changes_of db s.image image) (too_large 0 (length s.image) (changes_of db s.image image))
  turned_votes image (call_reply.Rule number) =
      answer_votes (one_of host) s now (omega arith) voter db id call (Announced_image (told_version s.phase s.version))
      (call_reply.Rule number)
  turned_votes image call_reply.Malformed = refusal reply.Malformed (λ other. tt)
  turned_votes image (call_reply.BadRecord at) = refusal (reply.BadRecord at) (λ other. tt)

  written_votes : (short : Bool) (f : Option Flight) → f ≡ None → Asked (write_asked db (one_of host) s now id call short f)
  written_votes true None is = refusal reply.NoMemory (λ other. tt)
  written_votes false None is = turned_votes (db.call s.image now call).image (db.call s.image now call).reply
  written_votes short (Some f) is = absurd (cc)

-- ---- each event

-- a server that is alone
alone_votes : (db : Database) (host : Host) (s : Server) (now : ℕ) (e : NodeEvent) (short : List Bool) → IsVoter (one_of host) s
    → IsTaken (one_of host) e → Votes (one_of host) e (handled (always db) (one_of host) s now e short)
alone_votes db host s now (event.Packet p) short voter taken =
    received_votes (one_of host) s now (omega arith) voter db p short (place_of (host ∷ []) p.from) taken
alone_votes db host s now event.BeaconTurn short voter taken = beacon_votes (one_of host) s now (omega arith) voter
alone_votes db host s now event.RecoverTurn short voter taken =
    recovered_votes host s now event.RecoverTurn s.phase voter (alone_phase host s voter)
alone_votes db host s now (event.Ask id call) short voter taken =
    asked_votes (one_of host) s now (omega arith) voter db id call
    (λ ready short. written_votes db host s now id call voter short s.flight voter.flight)
    (is_short short) (db.writes call)

-- a server of a larger cell is never ready
larger_votes : (db : Database) (m : Member) (s : Server) (now : ℕ) (e : NodeEvent) (short : List Bool) → 1 < cell_size m
    → m.me < cell_size m → IsVoter m s → IsTaken m e → Votes m e (handled (always db) m s now e short)
larger_votes db m s now (event.Packet p) short larger inside voter taken =
    received_votes m s now inside voter db p short (place_of m.hosts p.from) taken
larger_votes db m s now event.BeaconTurn short larger inside voter taken = beacon_votes m s now inside voter
larger_votes db m s now event.RecoverTurn short larger inside voter taken = absurd (omega arith)
larger_votes db m s now (event.Ask id call) short larger inside voter taken =
    asked_votes m s now inside voter db id call (λ ready short. unready voter.phase ready) (is_short short) (db.writes call)
  where
    unready : {A : Type 0} → (s.phase ≡ NoPhase) ⊎ ((cell_size m ≡ 1) × IsAlonePhase s.version s.phase) → is_ready s.phase ≡ true → A
    unready (inl none) ready = absurd (true≢false (sym ready ∙ ap is_ready none))
    unready (inr alone) ready = absurd (omega (arith, alone.0))

member_votes : (db : Database) (hosts : List Host) (me : ℕ) (s : Server) (now : ℕ) (e : NodeEvent) (short : List Bool) → me < length hosts
    → IsVoter (record { hosts = hosts; me = me }) s
    → IsTaken (record { hosts = hosts; me = me }) e
    → Votes (record { hosts = hosts; me = me }) e (handled (always db) (record { hosts = hosts; me = me }) s now e short)
member_votes db [] me s now e short inside voter taken = absurd (omega arith)
member_votes db (host ∷ []) zero s now e short inside voter taken = alone_votes db host s now e short voter taken
member_votes db (host ∷ []) (suc me) s now e short inside voter taken = absurd (omega arith)
member_votes db (a ∷ b ∷ hosts) me s now e short inside voter taken =
    larger_votes db (record { hosts = a ∷ b ∷ hosts; me = me }) s now e short (omega arith) inside voter taken

-- ---- the lapse

step_votes : (db : Database) (m : Member) (s : Server) (now : ℕ) (e : NodeEvent) (short : List Bool) → m.me < cell_size m → IsVoter m s
    → IsTaken m e → Votes m e (step_of db m s now e short)
unfolding step_by
step_votes db m s now e short inside voter taken = cond_both (leased m s now) _ _ P (λ _. kept s.flight voter.flight) (λ _. lapses)
  where
    after_lapse : (before : Server) → IsVoter m before → Votes m e (handled (always db) m before now e short)
    after_lapse before is = member_votes db m.hosts m.me before now e short inside is taken

    again : (t : Stepped) → Votes m e t → Votes m e (record { server = t.server; calls = t.calls; shown = t.shown })
    again t votes = record { server = votes.server; shown = votes.shown; rests = votes.rests }

    P : Stepped → Type 0
    P t = Votes m e (followed t (λ after. handled (always db) m after now e (short_after t.shown short)))

    kept : (f : Option Flight) → f ≡ None → P (write_lapsed m s now f)
    kept None is = again (handled (always db) m s now e short) (after_lapse s voter)
    kept (Some f) is = absurd (cc)

    dropped : Server
    dropped = with_phase (without_writes s) NoPhase

    Q : List Shown → Type 0
    Q shown = P (showing dropped shown)

    lapses : Q (writes_refused m s now phases.None)
    lapses = subst Q (sym (none_refused s.flight s.waiting _ _ voter.flight voter.waiting))
        (again (handled (always db) m dropped now e short) (after_lapse dropped (record { phase = inl refl; flight = refl; waiting = refl })))

pub voters_vote : VotersVote
voters_vote = record {
  first = λ m durable now. record { phase = inl refl; flight = refl; waiting = refl };
  steps = λ db m s now e short inside voter taken.
      let votes = step_votes db m s now e short inside voter taken in
      record { server = votes.server; packets = fine_packets m e (step_of db m s now e short).shown votes.shown; rests = votes.rests };
  answers = λ db m s now e short call inside voter taken asks.
      fine_answers m e call (step_of db m s now e short).shown asks (step_votes db m s now e short inside voter taken).shown;
}
