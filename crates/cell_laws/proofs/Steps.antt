-- What a step of a server does, rule by rule, as far as votes, the lease, its phase and its epoch go. All rules but those of
-- votes leave the votes, and their packets carry none.
use Rattle.std.proofs.Common.{Bool, true, false, cond, ◌==◌, ◌≡◌, ℕ, ◌+◌, ◌≤◌, List, [], ◌∷◌, ◌++◌, length, map, refl, sym, ap, subst, ◌∙◌}
use Rattle.std.proofs.Common.{arith}
use Rattle.std.proofs.lemmas.Bool.{cond_both}
use Rattle.std.specs.Prelude.{Option, Some, None, ◌&&◌, ◌||◌, not, nat_lt, nat_le, is_none, is_some}
use Rattle.lock_table.specs.declared.tables.TheConstants.{MAX_WAITING}
use Rattle.ubik_types.specs.declared.hosts.Host.{Host}
use Rattle.ubik_types.specs.declared.images.Change.{Change}
use Rattle.ubik_types.specs.declared.limits.TheConstants.{SMALLTIME}
use Rattle.ubik_types.specs.declared.phases.Phase.TheVariants as phases
use Rattle.ubik_types.specs.declared.versions.TheConstants.{MAX_COUNTER}
use Rattle.ubik_types.specs.declared.versions.Version.{Version}
use Rattle.ubik_types.specs.Lease.{is_in_lease}
use Rattle.ubik_types.specs.Logged.{too_large}
use Rattle.ubik_types.specs.Phase.{Polled, Spread, PhaseRecord, NoPhase, Poll, Fetch, Relabel, Send, Ready}
use Rattle.ubik_types.specs.Quorum.{is_majority}
use Rattle.ubik_types.specs.Version.{version_lt, version_eq}
use Rattle.ubik_calls.specs.declared.packets.TheConstants.{MAX_PIECES}
use Rattle.ubik_calls.specs.declared.packets.Body.{Body}
use Rattle.ubik_calls.specs.declared.packets.Body.TheVariants as body
use Rattle.db_image.specs.declared.services.CallReply.{CallReply}
use Rattle.db_image.specs.declared.services.CallReply.TheVariants as call_reply
use Rattle.db_image.specs.Database.{Database, changes_of}
use Rattle.ubik_calls.specs.declared.packets.Packet.{Packet}
use Rattle.cell_model.specs.declared.events.NodeEvent.{NodeEvent}
use Rattle.cell_model.specs.declared.events.NodeEvent.TheVariants as event
use Rattle.cell_model.specs.Asks.{read, write_asked, served, allows_reads, asked_elsewhere, asked_as}
use Rattle.cell_model.specs.Evaluating.{always}
use Rattle.cell_model.specs.Lapse.{writes_refused, phase_dropped, write_lapsed, lapsed}
use Rattle.cell_model.specs.Node.{Server, KeptWrite, ReceivedText, Flight, Waiting}
use Rattle.cell_model.specs.NodeRule.{received_from, received_packet, place_of, handled, step_of, step_by}
use Rattle.cell_model.specs.Polls.{new_poll, polling, with_answer, best_answer, first_with, entry_at, is_marked}
use Rattle.cell_model.specs.Receiver.{is_sending, answers_version_kept, answers_version_is, relabelled_by, set_version_received}
use Rattle.cell_model.specs.Receiver.{text_went_on, send_piece_received, empty_write, begin_received, kept_with, put_piece_received}
use Rattle.cell_model.specs.Receiver.{committed_by, write_taken, whole_write, commit_received, kept_but, abort_received, get_piece_received}
use Rattle.cell_model.specs.Recovery.{asks_versions, has_answered, first_of_epoch, relabelled_to, relabelled, polled, poll_asked}
use Rattle.cell_model.specs.Recovery.{poll_begun, bytes_received, spread_again, recovered, held_by, holder_added, lacking_sent}
use Rattle.cell_model.specs.Recovery.{told_to_spread, version_is_received, version_kept_received, next_sent, piece_kept_received, text_with}
use Rattle.cell_model.specs.Recovery.{is_whole, installed, fetch_installed, fetch_went_on, piece_received}
use Rattle.cell_model.specs.Step.{Member, cell_size, Basis, Announced_image, Beacon_image, Shown, Stepped, quiet, showing, followed, leased}
use Rattle.cell_model.specs.Step.{is_ready, is_fetch, told_version, with_phase, with_database, is_short, short_after}
use Rattle.cell_model.specs.Writes.{announced_image, next_version, own_write_begun, ended_write, flight_settled, settled_in, settled}
use Rattle.cell_model.specs.Writes.{written_in, written_changes, written_small, written_within, turned, write_turn, is_free_in, is_free}
use Rattle.cell_model.specs.Writes.{next_turns, settled_with_turns}
use Rattle.cell_laws.specs.Invariant.{KeptRises, Claims}
use Rattle.cell_laws.proofs.Others.{IsOther, AllOther, other_append, bodies_if, sends_other, write_other, spread_to_other, answer_other}
use Rattle.cell_laws.proofs.Others.{spread_other, waiting_other, refused_other, read_other}
use Rattle.cell_laws.proofs.Parts.{Ballot, ballot_of, is_held, AreLegal, legal_append, Fit, Rests, lt_true, and_both, or_none, lt_rises}
use Rattle.cell_laws.proofs.Parts.{not_lt_rises, eq_epoch, no, and_three, text_version, piece_rises, but_rises, whole_rises}

-- events that are not of votes
abbrev pub IsOtherEvent : NodeEvent → Type 0
IsOtherEvent (event.Packet p) = IsOther p.body
IsOtherEvent event.BeaconTurn = ⊥
IsOtherEvent _ = Unit {0}

-- ---- rule by rule

module _ (db : Database) (m : Member) (now : ℕ) (b : Ballot) (Claim : ℕ → Type 0)
    (claim_now : is_in_lease (cell_size m) b.starts now ≡ true → Claim now) where
  abbrev Leased : Type 0
  Leased = is_in_lease (cell_size m) b.starts now ≡ true

  abbrev F : Server → Type 0
  F s = Fit m now b Claim s

  abbrev R : Server → Stepped → Type 0
  R s t = Rests m now b Claim s t

  either : (s : Server) (test : Bool) (x y : Stepped) → (test ≡ true → R s x) → (test ≡ false → R s y) → R s (cond test x y)
  either s test x y = cond_both test x y (R s)

  shows : (s : Server) (shown : List Shown) → F s → AllOther shown → R s (showing s shown)
  shows s shown fit all = record { fit = fit; other = all; legal = refl }

  rests : (s : Server) → F s → R s (quiet s)
  rests s fit = shows s [] fit tt

  -- the server is another one, of the same version
  turns : (s u : Server) (shown : List Shown) → u.version ≡ s.version → F u → AllOther shown → R s (showing u shown)
  turns s u shown same fit all = record { fit = fit; other = all; legal = sym same }

  before : (s u : Server) (t : Stepped) → u.version ≡ s.version → R u t → R s t
  before s u t same r = record {
    fit = r.fit;
    other = r.other;
    legal = subst (λ (v : Version). AreLegal Leased Claim now v t.calls t.server.version) same r.legal;
  }

  pub follows : (s : Server) (t : Stepped) (next : Server → Stepped) → R s t → (F t.server → R t.server (next t.server)) →
      R s (followed t next)
  follows s t next first second =
      let then : R t.server (next t.server) = second first.fit in
      record {
        fit = then.fit;
        other = other_append t.shown (next t.server).shown first.other then.other;
        legal =
            legal_append Leased Claim now s.version t.server.version (next t.server).server.version t.calls
            (next t.server).calls first.legal then.legal;
      }

  lease_of : (s : Server) → F s → leased m s now ≡ true → Leased
  lease_of s fit is = subst (λ (c : Ballot). is_in_lease (cell_size m) c.starts now ≡ true) fit.ballot is

  -- another phase, in the lease
  in_phase : (s : Server) (phase : PhaseRecord) → F s → Leased → (is_sending phase ≡ true → Claim s.version.epoch) → F (with_phase s phase)
  in_phase s phase fit lease sends =
      record { ballot = fit.ballot; held = λ _. lease; claims = record { sending = sends; kept = fit.claims.kept } }

  -- ---- holders

  flight_settled_is : (s : Server) (poll : Polled) (spread : Spread) (announced : Version) (f : Option Flight) → F s → Leased →
      Claim s.version.epoch → R s (flight_settled m s poll spread announced f)
  flight_settled_is s poll spread announced None fit lease claim = rests s fit
  flight_settled_is s poll spread announced (Some f) fit lease claim =
      either s (is_majority (cell_size m) spread.holders) _ _ (λ _. ended) (λ _. rests s fit)
    where
      ended : R s (ended_write s f poll spread announced)
      ended = record {
        fit = record { ballot = fit.ballot; held = λ _. lease; claims = record { sending = λ _. claim; kept = fit.claims.kept } };
        other = (tt, (tt, tt));
        legal = refl;
      }

  settled_in_is : (s : Server) (phase : PhaseRecord) → s.phase ≡ phase → F s → R s (settled_in m s phase)
  settled_in_is s NoPhase at fit = rests s fit
  settled_in_is s (Poll poll) at fit = rests s fit
  settled_in_is s (Fetch poll best host) at fit = rests s fit
  settled_in_is s (Relabel poll) at fit = rests s fit
  settled_in_is s (Send poll spread) at fit =
      either s (is_majority (cell_size m) spread.holders) _ _
      (λ _. turns s (with_phase s (Ready poll spread s.version)) _ refl
      (in_phase s (Ready poll spread s.version) fit (fit.held (ap is_held at)) (λ _. fit.claims.sending (ap is_sending at))) (tt, tt))
      (λ _. rests s fit)
  settled_in_is s (Ready poll spread announced) at fit =
      flight_settled_is s poll spread announced s.flight fit (fit.held (ap is_held at)) (fit.claims.sending (ap is_sending at))

  settled_is : (s : Server) → F s → R s (settled m s)
  settled_is s fit = settled_in_is s s.phase refl fit

  -- ---- writes

  written_in_is : (s : Server) (id : ℕ) (call answer image : List ℕ) (changes : List Change) (phase : PhaseRecord) → s.phase ≡ phase → F s →
      R s (written_in m s now id call answer image changes phase)
  written_in_is s id call answer image changes NoPhase at fit = rests s fit
  written_in_is s id call answer image changes (Poll poll) at fit = rests s fit
  written_in_is s id call answer image changes (Fetch poll best host) at fit = rests s fit
  written_in_is s id call answer image changes (Relabel poll) at fit = rests s fit
  written_in_is s id call answer image changes (Send poll spread) at fit = rests s fit
  written_in_is s id call answer image changes (Ready poll spread announced) at fit =
      follows s (own_write_begun m s now id call answer image changes poll spread) (settled m) begun (settled_is _)
    where
      claim : Claim s.version.epoch
      claim = fit.claims.sending (ap is_sending at)

      begun : R s (own_write_begun m s now id call answer image changes poll spread)
      begun = record {
        fit = record { ballot = fit.ballot; held = λ _. fit.held (ap is_held at); claims = record { sending = λ _. claim; kept = tt } };
        other = sends_other m _ (λ k. write_other s.version (next_version s.version) _);
        legal = ((refl, claim), refl);
      }

  -- without what waits
  waiting_fit : (s : Server) (waiting : List Waiting) → F s → F (record s { waiting = waiting })
  waiting_fit s waiting fit =
      record { ballot = fit.ballot; held = fit.held; claims = record { sending = fit.claims.sending; kept = fit.claims.kept } }

  written_changes_is : (s : Server) (id : ℕ) (call answer image : List ℕ) (changes : List Change) → F s → Leased →
      R s (written_changes m s now id call answer image changes)
  written_changes_is s id call answer image changes fit lease =
      either s (s.version.counter == MAX_COUNTER) _ _
      (λ _. turns s (polling m (record s { waiting = [] }) now) _ refl
      (in_phase (record s { waiting = [] }) (Poll (new_poll m (record s { waiting = [] }) now)) (waiting_fit s [] fit) lease (λ is. no is))
      (tt, waiting_other s.waiting _))
      (λ _. written_in_is s id call answer image changes s.phase refl fit)

  written_small_is : (s : Server) (id : ℕ) (call answer image : List ℕ) (changes : List Change) → F s → Leased →
      R s (written_small m s now id call answer image changes)
  written_small_is s id call answer image [] fit lease = shows s _ fit (tt, tt)
  written_small_is s id call answer image (change ∷ changes) fit lease =
      written_changes_is s id call answer image (change ∷ changes) fit lease

  written_within_is : (s : Server) (id : ℕ) (call answer image : List ℕ) (changes : List Change) (passed : Option ℕ) → F s → Leased →
      R s (written_within m s now id call answer image changes passed)
  written_within_is s id call answer image changes None fit lease = written_small_is s id call answer image changes fit lease
  written_within_is s id call answer image changes (Some bytes) fit lease = shows s _ fit (tt, tt)

  turned_is : (s : Server) (id : ℕ) (call image : List ℕ) (r : CallReply) → F s → Leased → R s (turned db m s now id call image r)
  turned_is s id call image (call_reply.Done answer) fit lease =
      written_within_is s id call answer image (changes_of db s.image image)
      (too_large 0 (length s.image) (changes_of db s.image image)) fit lease
  turned_is s id call image (call_reply.Rule number) fit lease = shows s _ fit (tt, tt)
  turned_is s id call image call_reply.Malformed fit lease = shows s _ fit (tt, tt)
  turned_is s id call image (call_reply.BadRecord at) fit lease = shows s _ fit (tt, tt)

  turn_is : (s : Server) (id : ℕ) (call : List ℕ) (short : Bool) → F s → Leased → R s (write_turn db m s now id call short)
  turn_is s id call short fit lease =
      either s short _ _ (λ _. shows s _ fit (tt, tt))
      (λ _. turned_is s id call (db.call s.image now call).image (db.call s.image now call).reply fit lease)

  free_held : (phase : PhaseRecord) (f : Option Flight) → is_free_in phase f ≡ true → is_held phase ≡ true
  free_held NoPhase f is = no is
  free_held (Poll poll) f is = refl
  free_held (Fetch poll best host) f is = refl
  free_held (Relabel poll) f is = refl
  free_held (Send poll spread) f is = refl
  free_held (Ready poll spread announced) f is = refl

  next_turns_is : (waiting : List Waiting) (s : Server) (short : List Bool) → F s → R s (next_turns (always db) m now waiting s short)
  next_turns_is [] s short fit = rests s fit
  next_turns_is (w ∷ waiting) s short fit =
      either s (is_free s) _ _
      (λ free. follows s (write_turn db m (record s { waiting = waiting }) now w.id w.call (is_short short))
      (λ after. next_turns (always db) m now waiting after
      (short_after (write_turn db m (record s { waiting = waiting }) now w.id w.call (is_short short)).shown short))
      (before s (record s { waiting = waiting }) _ refl
      (turn_is (record s { waiting = waiting }) w.id w.call (is_short short) (waiting_fit s waiting fit)
      (fit.held (free_held s.phase s.flight free))))
      (λ fit. next_turns_is waiting _ _ fit))
      (λ _. rests s fit)

  settled_with_turns_is : (s : Server) (short : List Bool) → F s → R s (settled_with_turns (always db) m s now short)
  settled_with_turns_is s short fit =
      follows s (settled m s) (λ after. next_turns (always db) m now after.waiting after (short_after (settled m s).shown short)) (settled_is s fit)
      (λ fit. next_turns_is (settled m s).server.waiting (settled m s).server _ fit)

  -- ---- asks

  read_is : (s : Server) (id : ℕ) (call image : List ℕ) (basis : Basis) (short : Bool) → F s → R s (read db s now id call image basis short)
  read_is s id call image basis short fit =
      either s short _ _ (λ _. shows s _ fit (tt, tt))
      (λ _. shows s _ fit (read_other id (record { call = call; moment = now; basis = basis }) (db.call image now call).reply))

  write_asked_is : (s : Server) (id : ℕ) (call : List ℕ) (short : Bool) (f : Option Flight) → F s → Leased →
      R s (write_asked db m s now id call short f)
  write_asked_is s id call short None fit lease = turn_is s id call short fit lease
  write_asked_is s id call short (Some f) fit lease =
      either s (nat_le MAX_WAITING (length s.waiting)) _ _ (λ _. shows s _ fit (tt, tt))
      (λ _. either s short _ _ (λ _. shows s _ fit (tt, tt))
      (λ _. turns s (record s { waiting = s.waiting ++ record { id = id; call = call } ∷ [] }) [] refl (waiting_fit s _ fit) tt))

  served_is : (s : Server) (id : ℕ) (call : List ℕ) (writes short : Bool) → F s → Leased → R s (served db m s now id call writes short)
  served_is s id call writes short fit lease =
      either s writes _ _ (λ _. write_asked_is s id call short s.flight fit lease)
      (λ _. read_is s id call (announced_image s) (Announced_image (told_version s.phase s.version)) short fit)

  elsewhere_is : (s : Server) (id : ℕ) (call : List ℕ) (writes short may_read : Bool) → F s →
      R s (asked_elsewhere db m s now id call writes short may_read)
  elsewhere_is s id call writes short may_read fit =
      either s writes _ _ (λ _. shows s _ fit (tt, tt))
      (λ _. either s may_read _ _ (λ _. read_is s id call s.image (Beacon_image s.version) short fit) (λ _. shows s _ fit (tt, tt)))

  asked_as_is : (s : Server) (id : ℕ) (call : List ℕ) (short : Bool) (o : Option Bool) → F s → R s (asked_as db m s now id call short o)
  asked_as_is s id call short None fit = shows s _ fit (tt, tt)
  asked_as_is s id call short (Some writes) fit =
      either s (leased m s now) _ _
      (λ is. either s (is_ready s.phase) _ _ (λ _. served_is s id call writes short fit (lease_of s fit is)) (λ _. shows s _ fit (tt, tt)))
      (λ _. elsewhere_is s id call writes short (allows_reads s.version now s.beacon) fit)

  -- ---- recovery

  relabelled_is : (s : Server) (poll : Polled) → F s → Leased → R s (relabelled m s poll now)
  relabelled_is s poll fit lease =
      either s (nat_lt s.version.epoch now) _ _
      (λ less. follows s (relabelled_to m s poll (first_of_epoch now)) (settled m) (made less) (settled_is _))
      (λ _. turns s (with_phase s (Relabel poll)) [] refl (in_phase s (Relabel poll) fit lease (λ is. no is)) tt)
    where
      made : nat_lt s.version.epoch now ≡ true → R s (relabelled_to m s poll (first_of_epoch now))
      made less = record {
        fit = record { ballot = fit.ballot; held = λ _. lease; claims = record { sending = λ _. claim_now lease; kept = tt } };
        other =
            sends_other m _
            (λ k. answer_other (relabelled_to m s poll (first_of_epoch now)).server poll s.version (entry_at poll.answers k));
        legal = ((lt_true _ _ less, refl, lease), refl);
      }

  polled_is : (s : Server) (poll : Polled) → F s → Leased → R s (polled m s poll now)
  polled_is s poll fit lease =
      let best = best_answer poll in
      either s (is_majority (cell_size m) (map is_some poll.answers)) _ _
      (λ _. either s (version_lt s.version best) _ _
      (λ _. turns s (with_phase s (Fetch poll best (first_with best poll.answers))) _ refl
      (in_phase s (Fetch poll best (first_with best poll.answers)) fit lease (λ is. no is)) (tt, tt))
      (λ _. relabelled_is s poll fit lease))
      (λ _. turns s (with_phase s (Poll poll)) [] refl (in_phase s (Poll poll) fit lease (λ is. no is)) tt)

  poll_asked_is : (s : Server) (poll : Polled) → F s → Leased → R s (poll_asked m s poll now)
  poll_asked_is s poll fit lease =
      follows s (showing s (asks_versions m poll.number (has_answered poll))) (λ after. polled m after poll now)
      (shows s _ fit (sends_other m _ (λ k. bodies_if (has_answered poll k) [] _ tt (tt, tt)))) (λ fit. polled_is s poll fit lease)

  poll_begun_is : (s : Server) → F s → Leased → R s (poll_begun m s now)
  poll_begun_is s fit lease =
      before s (polling m s now) _ refl
      (poll_asked_is (polling m s now) (new_poll m s now) (in_phase s (Poll (new_poll m s now)) fit lease (λ is. no is)) lease)

  spread_is : (s : Server) (poll : Polled) (spread : Spread) (announced : Version) → F s → R s (spread_again m s poll spread announced)
  spread_is s poll spread announced fit =
      shows s _ fit (sends_other m _ (λ k. bodies_if (is_marked spread.holders k) [] _ tt (spread_other s poll announced s.flight)))

  recovered_is : (s : Server) (phase : PhaseRecord) → s.phase ≡ phase → F s → R s (recovered m s now phase)
  recovered_is s NoPhase at fit =
      either s (leased m s now) _ _ (λ is. poll_begun_is s fit (lease_of s fit is)) (λ _. rests s fit)
  recovered_is s (Poll poll) at fit = poll_asked_is s poll fit (fit.held (ap is_held at))
  recovered_is s (Fetch poll best k) at fit =
      either s (nat_lt (poll.number + SMALLTIME) now) _ _ (λ _. poll_begun_is s fit (fit.held (ap is_held at)))
      (λ _. shows s _ fit (tt, tt))
  recovered_is s (Relabel poll) at fit = relabelled_is s poll fit (fit.held (ap is_held at))
  recovered_is s (Send poll spread) at fit =
      follows s (spread_again m s poll spread s.version) (settled m) (spread_is s poll spread s.version fit) (settled_is s)
  recovered_is s (Ready poll spread announced) at fit = spread_is s poll spread announced fit

  -- ---- pieces

  next_sent_is : (s : Server) (host : Host) (poll : Polled) (version : Version) (next : ℕ) (f : Option Flight) → F s →
      R s (next_sent m s host poll version next f)
  next_sent_is s host poll version next None fit =
      either s (version_eq version s.version && nat_lt next (length s.image)) _ _ (λ _. shows s _ fit (tt, tt)) (λ _. rests s fit)
  next_sent_is s host poll version next (Some f) fit = rests s fit

  piece_kept_is : (s : Server) (host : Host) (version : Version) (next : ℕ) (phase : PhaseRecord) → F s →
      R s (piece_kept_received m s host version next phase)
  piece_kept_is s host version next NoPhase fit = rests s fit
  piece_kept_is s host version next (Poll poll) fit = rests s fit
  piece_kept_is s host version next (Fetch poll best k) fit = rests s fit
  piece_kept_is s host version next (Relabel poll) fit = rests s fit
  piece_kept_is s host version next (Send poll spread) fit = next_sent_is s host poll version next s.flight fit
  piece_kept_is s host version next (Ready poll spread announced) fit = next_sent_is s host poll version next s.flight fit

  -- what a server takes over where it does not send
  taken_fit : (s : Server) (version : Version) (image : List ℕ) → is_sending s.phase ≡ false → F s → F (with_database s version image)
  taken_fit s version image idle fit =
      record { ballot = fit.ballot; held = fit.held; claims = record { sending = λ is. no (sym idle ∙ is); kept = tt } }

  installed_is : (s : Server) (version : Version) (image : List ℕ) → is_sending s.phase ≡ false → s.version.epoch ≤ version.epoch → F s →
      R s (installed s version image)
  installed_is s version image idle rises fit = record { fit = taken_fit s version image idle fit; other = tt; legal = (rises, refl) }

  text_fit : (s : Server) (text : Option ReceivedText) → F s → F (record s { received = text })
  text_fit s text fit =
      record { ballot = fit.ballot; held = fit.held; claims = record { sending = fit.claims.sending; kept = fit.claims.kept } }

  fetch_is : (s : Server) (poll : Polled) (best : Version) (from : ℕ) (text : Option ReceivedText) → is_sending s.phase ≡ false → F s →
      Leased → R s (fetch_went_on m s now poll best from text)
  fetch_is s poll best from None idle fit lease = rests s fit
  fetch_is s poll best from (Some text) idle fit lease =
      either s (is_whole text) _ _
      (λ _. follows s (fetch_installed s best text.bytes) (λ after. relabelled m after poll now)
      (either s (version_lt s.version best) _ _ (λ less. installed_is s best text.bytes idle (lt_rises s.version best less) fit)
      (λ _. rests s fit))
      (λ fit. relabelled_is (fetch_installed s best text.bytes).server poll fit lease))
      (λ _. turns s (record s { received = Some text }) _ refl (text_fit s (Some text) fit) (tt, tt))

  piece_received_is : (s : Server) (k number : ℕ) (version : Version) (total at : ℕ) (bytes : List ℕ) (phase : PhaseRecord) →
      s.phase ≡ phase → F s → R s (piece_received m s now k number version total at bytes phase)
  piece_received_is s k number version total at bytes NoPhase is fit = rests s fit
  piece_received_is s k number version total at bytes (Poll poll) is fit = rests s fit
  piece_received_is s k number version total at bytes (Fetch poll best from) is fit =
      either s (k == from && number == poll.number && version_eq version best) _ _
      (λ _. fetch_is s poll best from (text_with (bytes_received s.received == 0) k version total at bytes s.received)
      (ap is_sending is) fit (fit.held (ap is_held is)))
      (λ _. rests s fit)
  piece_received_is s k number version total at bytes (Relabel poll) is fit = rests s fit
  piece_received_is s k number version total at bytes (Send poll spread) is fit = rests s fit
  piece_received_is s k number version total at bytes (Ready poll spread announced) is fit = rests s fit

  -- ---- holders that are told

  held_held : (phase : PhaseRecord) (k : ℕ) → is_held (held_by phase k) ≡ is_held phase
  held_held NoPhase k = refl
  held_held (Poll poll) k = refl
  held_held (Fetch poll best host) k = refl
  held_held (Relabel poll) k = refl
  held_held (Send poll spread) k = refl
  held_held (Ready poll spread announced) k = refl

  held_sending : (phase : PhaseRecord) (k : ℕ) → is_sending (held_by phase k) ≡ is_sending phase
  held_sending NoPhase k = refl
  held_sending (Poll poll) k = refl
  held_sending (Fetch poll best host) k = refl
  held_sending (Relabel poll) k = refl
  held_sending (Send poll spread) k = refl
  held_sending (Ready poll spread announced) k = refl

  holder_is : (s : Server) (k : ℕ) (short : List Bool) → F s → R s (holder_added (always db) m s now k short)
  holder_is s k short fit =
      before s (with_phase s (held_by s.phase k)) _ refl (settled_with_turns_is (with_phase s (held_by s.phase k)) short held)
    where
      held : F (with_phase s (held_by s.phase k))
      held = record {
        ballot = fit.ballot;
        held = λ is. fit.held (sym (held_held s.phase k) ∙ is);
        claims = record { sending = λ is. fit.claims.sending (sym (held_sending s.phase k) ∙ is); kept = fit.claims.kept };
      }

  lacking_is : (s : Server) (host : Host) (poll : Polled) (spread : Spread) (version : Version) (f : Option Flight) → F s →
      R s (lacking_sent m s host poll spread version f)
  lacking_is s host poll spread version None fit = shows s _ fit (spread_to_other s poll.number spread.old _, tt)
  lacking_is s host poll spread version (Some f) fit = rests s fit

  told_is : (s : Server) (host : Host) (k : ℕ) (poll : Polled) (spread : Spread) (number : ℕ) (version : Version) (short : List Bool) →
      F s → R s (told_to_spread (always db) m s now host k poll spread number version short)
  told_is s host k poll spread number version short fit =
      either s (number == poll.number) _ _
      (λ _. either s (version_eq version s.version) _ _ (λ _. holder_is s k short fit)
      (λ _. lacking_is s host poll spread version s.flight fit))
      (λ _. rests s fit)

  version_told_is : (s : Server) (host : Host) (k number : ℕ) (version : Version) (short : List Bool) (phase : PhaseRecord) →
      s.phase ≡ phase → F s → R s (version_is_received (always db) m s now host k number version short phase)
  version_told_is s host k number version short NoPhase at fit = rests s fit
  version_told_is s host k number version short (Poll poll) at fit =
      either s (number == poll.number) _ _ (λ _. polled_is s (with_answer poll k version) fit (fit.held (ap is_held at))) (λ _. rests s fit)
  version_told_is s host k number version short (Fetch poll best from) at fit =
      either s (from == k && not (version_eq version best)) _ _
      (λ _. turns s (polling m s now) [] refl (in_phase s (Poll (new_poll m s now)) fit (fit.held (ap is_held at)) (λ is. no is)) tt)
      (λ _. rests s fit)
  version_told_is s host k number version short (Relabel poll) at fit = rests s fit
  version_told_is s host k number version short (Send poll spread) at fit = told_is s host k poll spread number version short fit
  version_told_is s host k number version short (Ready poll spread announced) at fit = told_is s host k poll spread number version short fit

  version_kept_is : (s : Server) (k : ℕ) (version : Version) (short : List Bool) (phase : PhaseRecord) → F s →
      R s (version_kept_received (always db) m s now k version short phase)
  version_kept_is s k version short NoPhase fit = rests s fit
  version_kept_is s k version short (Poll poll) fit = rests s fit
  version_kept_is s k version short (Fetch poll best from) fit = rests s fit
  version_kept_is s k version short (Relabel poll) fit = rests s fit
  version_kept_is s k version short (Send poll spread) fit =
      either s (version_eq version s.version) _ _ (λ _. holder_is s k short fit) (λ _. rests s fit)
  version_kept_is s k version short (Ready poll spread announced) fit =
      either s (version_eq version s.version) _ _ (λ _. holder_is s k short fit) (λ _. rests s fit)

  -- ---- the receiver

  tells_is : (s : Server) (host : Host) (poll : ℕ) → F s → R s (answers_version_is m host poll s)
  tells_is s host poll fit = shows s _ fit (tt, tt)

  keeps_is : (s : Server) (host : Host) → F s → R s (answers_version_kept m host s)
  keeps_is s host fit = shows s _ fit (tt, tt)

  version_set_is : (s : Server) (host : Host) (poll : ℕ) (old new : Version) → F s → R s (set_version_received m s host poll old new)
  version_set_is s host poll old new fit =
      either s (is_sending s.phase) _ _ (λ _. rests s fit)
      (λ idle. either s (version_eq s.version new) _ _ (λ _. keeps_is s host fit)
      (λ _. either s (version_eq s.version old && version_lt old new) _ _
      (λ is. follows s (relabelled_by s new) (answers_version_kept m host) (set_here idle (and_both (version_eq s.version old) _ is))
      (keeps_is _ host))
      (λ _. tells_is s host poll fit)))
    where
      set_here : is_sending s.phase ≡ false → (version_eq s.version old ≡ true) × (version_lt old new ≡ true) → R s (relabelled_by s new)
      set_here idle is =
          let same : s.version.epoch ≡ old.epoch = eq_epoch s.version old is.0 in
          let rises : old.epoch ≤ new.epoch = lt_rises old new is.1 in
          record { fit = taken_fit s new s.image idle fit; other = tt; legal = (omega arith, refl) }

  text_is : (s : Server) (host : Host) (poll : ℕ) (text : Option ReceivedText) → is_sending s.phase ≡ false →
      ((one : ReceivedText) → text ≡ Some one → s.version.epoch ≤ one.version.epoch) → F s → R s (text_went_on m s host poll text)
  text_is s host poll None idle rises fit = rests s fit
  text_is s host poll (Some text) idle rises fit =
      either s (is_whole text) _ _
      (λ _. follows s (installed s text.version text.bytes) (answers_version_kept m host)
      (installed_is s text.version text.bytes idle (rises text refl) fit) (keeps_is _ host))
      (λ _. turns s (record s { received = Some text }) _ refl (text_fit s (Some text) fit) (tt, tt))

  piece_taken_is : (s : Server) (host : Host) (k poll : ℕ) (version : Version) (total at : ℕ) (bytes : List ℕ) → F s →
      R s (send_piece_received m s host k poll version total at bytes)
  piece_taken_is s host k poll version total at bytes fit =
      either s (is_sending s.phase || is_fetch s.phase) _ _ (λ _. rests s fit)
      (λ idle. either s (version_eq s.version version) _ _ (λ _. keeps_is s host fit)
      (λ _. either s (version_lt version s.version) _ _ (λ _. tells_is s host poll fit)
      (λ not_below. text_is s host poll (text_with true k version total at bytes s.received) (or_none (is_sending s.phase) _ idle).0
      (λ one is.
      let below : s.version.epoch ≤ version.epoch = not_lt_rises version s.version not_below in
      let same : one.version.epoch ≡ version.epoch = text_version true k version total at bytes s.received one is in
      omega arith) fit)))

  kept_fit : (s : Server) (kept : Option KeptWrite) → KeptRises s.version kept → F s → F (record s { kept = kept })
  kept_fit s kept rises fit =
      record { ballot = fit.ballot; held = fit.held; claims = record { sending = fit.claims.sending; kept = rises } }

  write_kept_is : (s : Server) (old new : Version) (pieces len : ℕ) → F s → R s (begin_received s old new pieces len)
  write_kept_is s old new pieces len fit =
      either s (is_sending s.phase) _ _ (λ _. rests s fit)
      (λ _. either s (version_eq s.version old && version_lt old new && nat_le pieces MAX_PIECES) _ _
      (λ is. turns s (record s { kept = Some (empty_write old new pieces len) }) [] refl
      (kept_fit s (Some (empty_write old new pieces len)) (rises is) fit) tt)
      (λ _. rests s fit))
    where
      rises : (version_eq s.version old && version_lt old new && nat_le pieces MAX_PIECES) ≡ true → s.version.epoch ≤ new.epoch
      rises is =
          let w = and_three (version_eq s.version old) (version_lt old new) (nat_le pieces MAX_PIECES) is in
          let same : s.version.epoch ≡ old.epoch = eq_epoch s.version old w.0 in
          let less : old.epoch ≤ new.epoch = lt_rises old new w.1 in
          omega arith

  write_piece_is : (s : Server) (new : Version) (number : ℕ) (bytes : List ℕ) → F s → R s (put_piece_received s new number bytes)
  write_piece_is s new number bytes fit =
      either s (is_sending s.phase) _ _ (λ _. rests s fit)
      (λ _. turns s (record s { kept = kept_with new number bytes s.kept }) [] refl
      (kept_fit s _ (piece_rises s.version new number bytes s.kept fit.claims.kept) fit) tt)

  taken_is : (s : Server) (host : Host) (new : Version) (changes : Option (List Change)) → is_sending s.phase ≡ false →
      ((one : List Change) → changes ≡ Some one → s.version.epoch ≤ new.epoch) → F s → R s (write_taken m s host new changes)
  taken_is s host new None idle rises fit = rests s fit
  taken_is s host new (Some changes) idle rises fit =
      either s (is_none (too_large 0 (length s.image) changes)) _ _
      (λ _. follows s (committed_by s new changes) (answers_version_kept m host)
      (record { fit = taken_fit s new _ idle fit; other = tt; legal = (rises changes refl, refl) }) (keeps_is _ host))
      (λ _. rests s fit)

  write_committed_is : (s : Server) (host : Host) (old new : Version) → F s → R s (commit_received m s host old new)
  write_committed_is s host old new fit =
      either s (is_sending s.phase) _ _ (λ _. rests s fit)
      (λ idle. either s (version_eq s.version new) _ _ (λ _. keeps_is s host fit)
      (λ _. either s (version_eq s.version old) _ _
      (λ _. taken_is s host new (whole_write new s.kept) idle (λ one is. whole_rises s.version new s.kept one is fit.claims.kept) fit)
      (λ _. rests s fit)))

  write_dropped_is : (s : Server) (new : Version) → F s → R s (abort_received s new)
  write_dropped_is s new fit =
      either s (is_sending s.phase) _ _ (λ _. rests s fit)
      (λ _. turns s (record s { kept = kept_but new s.kept }) [] refl
      (kept_fit s _ (but_rises s.version new s.kept fit.claims.kept) fit) tt)

  piece_asked_is : (s : Server) (host : Host) (poll : ℕ) (version : Version) (at : ℕ) → F s →
      R s (get_piece_received m s host poll version at)
  piece_asked_is s host poll version at fit =
      either s (version_eq s.version version && (at == 0 || nat_lt at (length s.image))) _ _ (λ _. shows s _ fit (tt, tt))
      (λ _. tells_is s host poll fit)

  -- ---- the lapse

  pub lapsed_is : (s : Server) → ballot_of s ≡ b → Claims Claim s → R s (lapsed m s now)
  lapsed_is s ballot claims =
      either s (leased m s now) _ _ (λ is. kept (subst (λ (c : Ballot). is_in_lease (cell_size m) c.starts now ≡ true) ballot is) s.flight)
      (λ _. dropped)
    where
      dropped : R s (phase_dropped m s now)
      dropped = record {
        fit = record { ballot = ballot; held = λ is. no is; claims = record { sending = λ is. no is; kept = claims.kept } };
        other = refused_other m s now phases.None;
        legal = refl;
      }

      kept : Leased → (f : Option Flight) → R s (write_lapsed m s now f)
      kept lease None = rests s (record { ballot = ballot; held = λ _. lease; claims = claims })
      kept lease (Some f) =
          either s (nat_lt (f.began + SMALLTIME) now) _ _
          (λ _. record {
            fit = record { ballot = ballot; held = λ _. lease; claims = record { sending = λ is. no is; kept = claims.kept } };
            other =
                other_append (writes_refused m s now phases.Poll) _ (refused_other m s now phases.Poll) (sends_other m _ (λ k. (tt, tt)));
            legal = refl;
          })
          (λ _. rests s (record { ballot = ballot; held = λ _. lease; claims = claims }))

  -- ---- every event but those of votes

  received_is : (s : Server) (host : Host) (k : ℕ) (c : Body) (short : List Bool) → IsOther c → F s →
      R s (received_from (always db) m s now host k c short)
  received_is s host k (body.Beacon start claim ready version) short other fit = absurd other
  received_is s host k (body.Vote start granted) short other fit = absurd other
  received_is s host k (body.GetVersion poll) short other fit = tells_is s host poll fit
  received_is s host k (body.VersionIs poll version) short other fit = version_told_is s host k poll version short s.phase refl fit
  received_is s host k (body.GetPiece poll version offset) short other fit = piece_asked_is s host poll version offset fit
  received_is s host k (body.Piece poll version total offset bytes) short other fit =
      piece_received_is s k poll version total offset bytes s.phase refl fit
  received_is s host k (body.SendPiece poll version total offset bytes) short other fit =
      piece_taken_is s host k poll version total offset bytes fit
  received_is s host k (body.PieceKept poll version next) short other fit = piece_kept_is s host version next s.phase fit
  received_is s host k (body.SetVersion poll old new) short other fit = version_set_is s host poll old new fit
  received_is s host k (body.Begin old new pieces len) short other fit = write_kept_is s old new pieces len fit
  received_is s host k (body.PutPiece new number bytes) short other fit = write_piece_is s new number bytes fit
  received_is s host k (body.Commit old new) short other fit = write_committed_is s host old new fit
  received_is s host k (body.Abort new) short other fit = write_dropped_is s new fit
  received_is s host k (body.VersionKept version) short other fit = version_kept_is s k version short s.phase fit

  packet_is : (s : Server) (p : Packet) (short : List Bool) (place : Option ℕ) → IsOther p.body → F s →
      R s (received_packet (always db) m s now p short place)
  packet_is s p short None other fit = rests s fit
  packet_is s p short (Some k) other fit = received_is s p.from k p.body short other fit

  handled_is : (s : Server) (e : NodeEvent) (short : List Bool) → IsOtherEvent e → F s → R s (handled (always db) m s now e short)
  handled_is s (event.Packet p) short other fit = packet_is s p short (place_of m.hosts p.from) other fit
  handled_is s event.BeaconTurn short other fit = absurd other
  handled_is s event.RecoverTurn short other fit = recovered_is s s.phase refl fit
  handled_is s (event.Ask id call) short other fit = asked_as_is s id call (is_short short) (db.writes call) fit

  pub step_rests : (s : Server) (e : NodeEvent) (short : List Bool) → IsOtherEvent e → ballot_of s ≡ b → Claims Claim s →
      R s (step_of db m s now e short)
  unfolding step_by
  step_rests s e short other ballot claims =
      follows s (lapsed m s now) (λ after. handled (always db) m after now e (short_after (lapsed m s now).shown short)) (lapsed_is s ballot claims)
      (λ fit. handled_is (lapsed m s now).server e _ other fit)
