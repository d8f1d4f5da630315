-- Each event that a cell brings keeps what a server knows.
use Rattle.std.proofs.Common.{Bool, ◌==◌, ◌≡◌, ℕ, ◌+◌, ◌≤◌, ◌<◌, List, [], ◌∷◌, ◌++◌, length, refl, sym, ap, subst, ◌∙◌, arith}
use Rattle.std.proofs.lemmas.Bool.{cond_both}
use Rattle.std.proofs.lemmas.List.{append-nil}
use Rattle.std.specs.Prelude.{Option, Some, None, nat_lt}
use Rattle.ubik_types.specs.declared.hosts.Host.{Host}
use Rattle.ubik_types.specs.declared.limits.TheConstants.{SMALLTIME}
use Rattle.ubik_types.specs.declared.phases.Phase.{Phase}
use Rattle.ubik_types.specs.declared.phases.Phase.TheVariants as phases
use Rattle.ubik_types.specs.declared.phases.Applied.TheVariants as applied
use Rattle.ubik_types.specs.declared.versions.Version.{Version}
use Rattle.ubik_types.specs.Moment.{IsMoment}
use Rattle.ubik_types.specs.Phase.{Polled, Spread, PhaseRecord, NoPhase, Poll, Fetch, Relabel, Send, Ready}
use Rattle.ubik_types.specs.Version.{IsVersion, version_eq}
use Rattle.ubik_calls.specs.declared.packets.Packet.{Packet}
use Rattle.ubik_calls.specs.declared.packets.Body.{Body}
use Rattle.ubik_calls.specs.declared.packets.Body.TheVariants as body
use Rattle.ubik_calls.specs.declared.replies.Reply.{Reply}
use Rattle.db_image.specs.Database.{Database}
use Rattle.cell_model.specs.Durable.{durable}
use Rattle.cell_model.specs.declared.events.NodeEvent.{NodeEvent}
use Rattle.cell_model.specs.declared.events.NodeEvent.TheVariants as event
use Rattle.cell_model.specs.Evaluating.{always}
use Rattle.cell_model.specs.Lapse.{no_quorum, flight_refused, waiting_refused, writes_refused, without_writes, phase_dropped, write_given_up}
use Rattle.cell_model.specs.Lapse.{write_lapsed, lapsed}
use Rattle.cell_model.specs.Node.{Server, Flight, Waiting}
use Rattle.cell_model.specs.NodeRule.{place_of, received_from, received_packet, handled, step_of, step_by}
use Rattle.cell_model.specs.Polls.{polling, with_answer}
use Rattle.cell_model.specs.Recovery.{told_to_spread, holder_added, version_is_received, version_kept_received}
use Rattle.cell_model.specs.Step.{Member, cell_size, Shown, Stepped, quiet, showing, leased, with_phase, is_short, short_after, sends_to_all}
use Rattle.cell_places.proofs.Hosts.{HasPlace}
use Rattle.recovery_laws.specs.HasNoWrite.{IsPhaseOf}
use Rattle.recovery_laws.proofs.Facts.{answered_is}
use Rattle.write_laws.specs.Keeping.{IsKeeping, IsCellPacket, IsBrought}
use Rattle.write_laws.specs.Lines.{call_in_flight, unanswered, answers_of, asked_in, AreAnswersTo}
use Rattle.write_laws.proofs.Facts.{Keeps, keeps, no_flight, phase_keeps, polling_keeps}
use Rattle.write_laws.proofs.Goes.{IsBoundedBody, AllFine, AllSilent, silent_fine, silent_answers, fine_append, each_silent, Goes, rests, within}
use Rattle.write_laws.proofs.Goes.{Handles, handles, silent, handles_then}
use Rattle.write_laws.proofs.Lining.{told_both, waiting_told, flight_told}
use Rattle.write_laws.proofs.Recovering.{polled_goes, recovered_goes, refused_goes, lacking_goes, piece_kept_goes, piece_received_goes}
use Rattle.write_laws.proofs.Receiving.{tells_goes, version_set_goes, piece_taken_goes, piece_asked_goes, begin_goes, put_goes, commit_goes}
use Rattle.write_laws.proofs.Receiving.{abort_goes, beacon_goes, vote_goes, beacon_turn_goes}
use Rattle.write_laws.proofs.Turning.{holder_handles}
use Rattle.write_laws.proofs.Asking.{asked_goes}

-- ---- the lapse

module _ (db : Database) (m : Member) (now : ℕ) (inside : m.me < cell_size m) (s : Server) (good : IsKeeping db (cell_size m) s) where
  flight_fine : (f : Option Flight) (r : Reply) → AllFine m (flight_refused f r)
  flight_fine None r = tt
  flight_fine (Some f) r = (tt, tt)

  waiting_fine : (waiting : List Waiting) (r : Reply) → AllFine m (waiting_refused waiting r)
  waiting_fine [] r = tt
  waiting_fine (w ∷ waiting) r = (tt, waiting_fine waiting r)

  refused_fine : (phase : Phase) → AllFine m (writes_refused m s now phase)
  refused_fine phase =
      fine_append m (flight_refused s.flight (no_quorum m s now phase applied.Unknown)) (waiting_refused s.waiting (no_quorum m s now phase applied.No))
      (flight_fine s.flight (no_quorum m s now phase applied.Unknown)) (waiting_fine s.waiting (no_quorum m s now phase applied.No))

  -- all that have no answer are refused, in their order
  refused_told : (phase : Phase) → AreAnswersTo db (unanswered s) (answers_of (writes_refused m s now phase))
  refused_told phase =
      told_both db (call_in_flight s.flight) s.waiting (flight_refused s.flight (no_quorum m s now phase applied.Unknown))
      (waiting_refused s.waiting (no_quorum m s now phase applied.No))
      (flight_told db s.flight (no_quorum m s now phase applied.Unknown) ((λ id call. tt), tt))
      (waiting_told db s.waiting (no_quorum m s now phase applied.No) ((λ id call. tt), tt))

  freed : Keeps db (cell_size m) (without_writes s)
  freed = record {
    version = good.version;
    phase = good.phase;
    received = good.received;
    kept = good.kept;
    flight = tt;
    line = tt;
  }

  -- they are refused, and no durable call is made
  drops : (u : Server) (shown : List Shown) → Keeps db (cell_size m) u → u.version ≡ s.version → u.image ≡ s.image → u.flight ≡ None →
      u.waiting ≡ [] → AllFine m shown → AreAnswersTo db (unanswered s) (answers_of shown) → Handles db m 0 [] s (showing u shown)
  drops u shown fits version image none waits fine told =
      handles db m 0 s (showing u shown) good
      (record {
        server = fits;
        shown = fine;
        fits = tt;
        leads = ap (λ (v : Version). durable v s.image) (sym version) ∙ ap (λ (i : List ℕ). durable u.version i) (sym image);
        few = omega arith;
        answered = unanswered s;
        told = told;
        rest =
            sym (append-nil (unanswered s))
            ∙ ap (λ (l : List Waiting). unanswered s ++ l) (sym (ap (λ (l : List Waiting). call_in_flight u.flight ++ l) waits ∙ none_left u.flight none));
      })
      (λ _. waits)
    where
      none_left : (f : Option Flight) → f ≡ None → call_in_flight f ++ [] ≡ []
      none_left None is = refl
      none_left (Some f) is = absurd (cc)

  dropped : Handles db m 0 [] s (phase_dropped m s now)
  dropped =
      drops (with_phase (without_writes s) NoPhase) (writes_refused m s now phases.None)
      (phase_keeps db (cell_size m) (without_writes s) NoPhase refl tt freed) refl refl refl refl (refused_fine phases.None)
      (refused_told phases.None)

  given_up : Handles db m 0 [] s (write_given_up m s now)
  given_up =
      drops (polling m (without_writes s) now) (writes_refused m s now phases.Poll ++ sends_to_all m (body.Abort s.version))
      (polling_keeps db m (without_writes s) now refl freed) refl refl refl refl
      (fine_append m (writes_refused m s now phases.Poll) aborts (refused_fine phases.Poll) (silent_fine m aborts silent_aborts))
      (subst (λ (l : List Waiting). AreAnswersTo db l (answers_of (writes_refused m s now phases.Poll ++ aborts))) (append-nil (unanswered s))
      (told_both db (unanswered s) [] (writes_refused m s now phases.Poll) aborts (refused_told phases.Poll)
      (subst (AreAnswersTo db []) (sym (silent_answers m aborts silent_aborts)) tt)))
    where
      aborts : List Shown
      aborts = sends_to_all m (body.Abort s.version)

      silent_aborts : AllSilent m aborts
      silent_aborts = each_silent m inside (λ k. body.Abort s.version ∷ []) (λ k. ((good.version, tt), tt))

  write_goes : (f : Option Flight) → Handles db m 0 [] s (write_lapsed m s now f)
  write_goes None = silent db m 0 s (quiet s) good (rests db m 0 s (keeps db (cell_size m) s good))
  write_goes (Some f) =
      cond_both (nat_lt (f.began + SMALLTIME) now) _ _ (Handles db m 0 [] s) (λ _. given_up)
      (λ _. silent db m 0 s (quiet s) good (rests db m 0 s (keeps db (cell_size m) s good)))

  pub lapse_goes : Handles db m 0 [] s (lapsed m s now)
  lapse_goes = cond_both (leased m s now) _ _ (Handles db m 0 [] s) (λ _. write_goes s.flight) (λ _. dropped)

-- ---- packets

module _ (db : Database) (m : Member) (now : ℕ) (inside : m.me < cell_size m) (moment : IsMoment now) (s : Server)
    (good : IsKeeping db (cell_size m) s) where
  abbrev Part : Stepped → Type 0
  Part t = Handles db m 2 [] s t

  fits : Keeps db (cell_size m) s
  fits = keeps db (cell_size m) s good

  -- a part that answers no call
  still : (most : ℕ) (t : Stepped) → most ≤ 2 → Goes db m most s t → Part t
  still most t is goes = silent db m 2 s t good (within db m most 2 s t is goes)

  resting : Part (quiet s)
  resting = still 2 (quiet s) (omega arith) (rests db m 2 s fits)

  holder : (k : ℕ) (short : List Bool) → Part (holder_added (always db) m s now k short)
  holder k short = by (holder_handles db m now inside moment s k short good)
    where
      at_most : (n : ℕ) → n ≤ 1 → n ≤ 2
      at_most n few = omega arith

      by : Handles db m 1 [] s (holder_added (always db) m s now k short) → Part (holder_added (always db) m s now k short)
      by is = record {
        server = is.server;
        shown = is.shown;
        fits = is.fits;
        leads = is.leads;
        few = at_most (length (holder_added (always db) m s now k short).calls) is.few;
        line = is.line;
      }

  told : (host : Host) (k : ℕ) (poll : Polled) (spread : Spread) (number : ℕ) (version : Version) (short : List Bool) →
      HasPlace m.hosts host → IsVersion spread.old → Part (told_to_spread (always db) m s now host k poll spread number version short)
  told host k poll spread number version short there old =
      cond_both (number == poll.number) _ _ Part
      (λ _. cond_both (version_eq version s.version) _ _ Part (λ _. holder k short)
      (λ _. still 0 _ (omega arith) (lacking_goes db m now inside moment s host poll spread version s.flight there old fits)))
      (λ _. resting)

  version_is : (host : Host) (k number : ℕ) (version : Version) (short : List Bool) (phase : PhaseRecord) → s.phase ≡ phase →
      HasPlace m.hosts host → IsVersion version → IsPhaseOf (cell_size m) phase →
      Part (version_is_received (always db) m s now host k number version short phase)
  version_is host k number version short NoPhase at there is known = resting
  version_is host k number version short (Poll poll) at there is known =
      cond_both (number == poll.number) _ _ Part
      (λ _. still 1 _ (omega arith)
      (polled_goes db m now inside moment s (with_answer poll k version) (no_flight db (cell_size m) s (Poll poll) at refl fits)
      (answered_is (cell_size m) poll k version is known) fits))
      (λ _. resting)
  version_is host k number version short (Fetch poll best from) at there is known =
      still 1 _ (omega arith)
      (refused_goes db m now inside moment s from best k version (no_flight db (cell_size m) s (Fetch poll best from) at refl fits) fits)
  version_is host k number version short (Relabel poll) at there is known = resting
  version_is host k number version short (Send poll spread) at there is known =
      told host k poll spread number version short there known.1
  version_is host k number version short (Ready poll spread announced) at there is known =
      told host k poll spread number version short there known.1

  version_kept : (k : ℕ) (version : Version) (short : List Bool) (phase : PhaseRecord) →
      Part (version_kept_received (always db) m s now k version short phase)
  version_kept k version short NoPhase = resting
  version_kept k version short (Poll poll) = resting
  version_kept k version short (Fetch poll best from) = resting
  version_kept k version short (Relabel poll) = resting
  version_kept k version short (Send poll spread) =
      cond_both (version_eq version s.version) _ _ Part (λ _. holder k short) (λ _. resting)
  version_kept k version short (Ready poll spread announced) =
      cond_both (version_eq version s.version) _ _ Part (λ _. holder k short) (λ _. resting)

  from_goes : (host : Host) (k : ℕ) (b : Body) (short : List Bool) → IsBoundedBody b → HasPlace m.hosts host →
      Part (received_from (always db) m s now host k b short)
  from_goes host k (body.Beacon start claim ready version) short is there =
      still 2 _ (omega arith) (beacon_goes db m now inside moment s host k start claim ready version there fits)
  from_goes host k (body.Vote start granted) short is there = still 2 _ (omega arith) (vote_goes db m now inside moment s k start granted fits)
  from_goes host k (body.GetVersion poll) short is there = still 2 _ (omega arith) (tells_goes db m now inside moment 2 s host poll there fits)
  from_goes host k (body.VersionIs poll version) short is there = version_is host k poll version short s.phase refl there is.1.0 fits.phase
  from_goes host k (body.GetPiece poll version offset) short is there =
      still 1 _ (omega arith) (piece_asked_goes db m now inside moment s host poll version offset is.1.0 there fits)
  from_goes host k (body.Piece poll version total offset bytes) short is there =
      still 2 _ (omega arith)
      (piece_received_goes db m now inside moment s k poll version total offset bytes s.phase refl is.1.0 fits.phase fits)
  from_goes host k (body.SendPiece poll version total offset bytes) short is there =
      still 1 _ (omega arith) (piece_taken_goes db m now inside moment s host k poll version total offset bytes is.1.0 there fits)
  from_goes host k (body.PieceKept poll version next) short is there =
      still 0 _ (omega arith) (piece_kept_goes db m now inside moment s host version next s.phase there fits)
  from_goes host k (body.SetVersion poll old new) short is there =
      still 1 _ (omega arith) (version_set_goes db m now inside moment s host poll old new is.1.1.0 there fits)
  from_goes host k (body.Begin old new pieces len) short is there =
      still 1 _ (omega arith) (begin_goes db m now inside moment s old new pieces len is.0 is.1.0 fits)
  from_goes host k (body.PutPiece new number bytes) short is there =
      still 1 _ (omega arith) (put_goes db m now inside moment s new number bytes is.1.1.0 fits)
  from_goes host k (body.Commit old new) short is there =
      still 1 _ (omega arith) (commit_goes db m now inside moment s host old new is.1.0 there fits)
  from_goes host k (body.Abort new) short is there = still 1 _ (omega arith) (abort_goes db m now inside moment s new fits)
  from_goes host k (body.VersionKept version) short is there = version_kept k version short s.phase

  packet_goes : (p : Packet) (short : List Bool) (place : Option ℕ) → IsCellPacket m.hosts p → Part (received_packet (always db) m s now p short place)
  packet_goes p short None is = resting
  packet_goes p short (Some k) is = from_goes p.from k p.body short is.bounded is.sender

  -- ---- events

  pub handled_goes : (e : NodeEvent) (short : List Bool) → IsBrought m e → Handles db m 2 (asked_in e) s (handled (always db) m s now e short)
  handled_goes (event.Packet p) short brought = packet_goes p short (place_of m.hosts p.from) brought
  handled_goes event.BeaconTurn short brought = still 2 _ (omega arith) (beacon_turn_goes db m now inside moment s fits)
  handled_goes event.RecoverTurn short brought =
      still 1 _ (omega arith) (recovered_goes db m now inside moment s s.phase refl fits.phase fits)
  handled_goes (event.Ask id call) short brought = asked_goes db m now inside moment s good id call (is_short short) (db.writes call) refl

-- ---- steps

pub step_goes : (db : Database) (m : Member) (now : ℕ) (s : Server) (e : NodeEvent) (short : List Bool) → m.me < cell_size m → IsMoment now →
    IsKeeping db (cell_size m) s → IsBrought m e → Handles db m 2 (asked_in e) s (step_of db m s now e short)
unfolding step_by
step_goes db m now s e short inside moment good brought =
    let lapse : Handles db m 0 [] s (lapsed m s now) = lapse_goes db m now inside s good in
    handles_then db m 0 2 (asked_in e) s (lapsed m s now) (λ after. handled (always db) m after now e (short_after (lapsed m s now).shown short)) lapse
    (handled_goes db m now inside moment (lapsed m s now).server lapse.server e (short_after (lapsed m s now).shown short) brought)
