-- How many replies a step gives: at most one for each call that waits, one for the write in flight, and one more.
use Rattle.std.proofs.Common.{Bool, true, false, cond, ◌==◌, ◌≡◌, ◌≤◌, ◌⊎◌, inl, inr, ℕ, ◌+◌, List, [], ◌∷◌, ◌++◌, length, refl, ap, arith, length-append}
use Rattle.std.proofs.lemmas.Bool.{cond_both}
use Rattle.std.specs.Prelude.{Option, Some, None, ◌&&◌, ◌||◌, not, nat_le, nat_lt, map, is_some, is_none}
use Rattle.lock_table.specs.declared.tables.TheConstants.{MAX_WAITING}
use Rattle.ubik_types.specs.declared.hosts.Host.{Host}
use Rattle.ubik_types.specs.declared.images.Change.{Change}
use Rattle.ubik_types.specs.declared.limits.TheConstants.{SMALLTIME}
use Rattle.ubik_types.specs.declared.versions.TheConstants.{MAX_COUNTER}
use Rattle.ubik_types.specs.declared.versions.Version.{Version}
use Rattle.ubik_types.specs.Logged.{too_large}
use Rattle.ubik_types.specs.Phase.{Polled, Spread, PhaseRecord, NoPhase, Poll, Fetch, Relabel, Send, Ready}
use Rattle.ubik_types.specs.Quorum.{is_majority}
use Rattle.ubik_types.specs.Version.{version_eq, version_lt}
use Rattle.ubik_types.specs.Votes.{beacon_is_due}
use Rattle.ubik_calls.specs.declared.packets.TheConstants.{MAX_PIECES}
use Rattle.ubik_calls.specs.declared.packets.Body.{Body}
use Rattle.ubik_calls.specs.declared.packets.Body.TheVariants as body
use Rattle.ubik_calls.specs.declared.packets.Packet.{Packet}
use Rattle.ubik_calls.specs.declared.replies.Reply.{Reply}
use Rattle.ubik_types.specs.declared.phases.Applied.TheVariants as applied
use Rattle.ubik_types.specs.declared.phases.Phase.{Phase}
use Rattle.ubik_types.specs.declared.phases.Phase.TheVariants as phases
use Rattle.xdr_base.specs.ChangeText.{text_of}
use Rattle.db_image.specs.declared.services.CallReply.{CallReply}
use Rattle.db_image.specs.declared.services.CallReply.TheVariants as call_reply
use Rattle.db_image.specs.Database.{Database, changes_of}
use Rattle.cell_model.specs.declared.events.NodeEvent.{NodeEvent}
use Rattle.cell_model.specs.declared.events.NodeEvent.TheVariants as event
use Rattle.cell_model.specs.Asks.{allows_reads, asked_as, asked_elsewhere, put_into_line, read, read_reply, served, write_asked}
use Rattle.cell_model.specs.Evaluating.{Databases, behind_first}
use Rattle.cell_model.specs.Lapse.{flight_refused, lapsed, no_quorum, phase_dropped, waiting_refused, write_given_up, write_lapsed, writes_refused}
use Rattle.cell_model.specs.Node.{Flight, ReceivedText, Server, Waiting}
use Rattle.cell_model.specs.NodeRule.{handled, place_of, received_from, received_packet, step_by}
use Rattle.cell_model.specs.Polls.{best_answer, entry_at, is_marked, new_poll, polling, with_answer}
use Rattle.cell_model.specs.Receiver.{is_sending, text_went_on, send_piece_received, set_version_received, begin_received, put_piece_received, abort_received, commit_received, whole_write, write_taken, get_piece_received}
use Rattle.cell_model.specs.Recovery.{asks_versions, bytes_received, fetch_installed, fetch_went_on, has_answered, held_by, holder_added, is_whole, lacking_sent, next_sent, piece_kept_received, piece_received, poll_asked, poll_begun, polled, polled_best, recovered, relabelled, relabelled_to, first_of_epoch, spread_again, spread_answer, spread_bodies, text_with, told_to_spread, version_is_received, version_kept_received}
use Rattle.cell_model.specs.Step.{Evaluation, Announced_image, Beacon_image, Basis, Member, Shown, Stepped, cell_size, followed, is_fetch, is_ready, is_short, leased, quiet, sends_to_all, short_after, showing, told_version, with_phase}
use Rattle.cell_model.specs.Voting.{beacon_turn, own_beacon}
use Rattle.cell_model.specs.Writes.{announced_image, flight_settled, is_free, last_counter, next_turns, next_version, own_write_begun, settled, settled_in, settled_with_turns, turned, write_bodies, write_turn, written_changes, written_in, written_small, written_within}
use Rattle.journal_model.proofs.Choices.{shorts, shorts-append}
use Rattle.journal_model.proofs.Telling.{idle, sends_silent}

-- a step that gives at most so many replies
abbrev pub Few : ℕ → Stepped → Type 0
Few n t = length (shorts t.shown) ≤ n

-- a step that gives none
abbrev Silent : Stepped → Type 0
Silent t = shorts t.shown ≡ []

few_more : (j k : ℕ) (t : Stepped) → j ≤ k → Few j t → Few k t
few_more j k t le few = omega (arith, le, few)

few_silent : (n : ℕ) (t : Stepped) → Silent t → Few n t
few_silent n t silent = omega (arith, ap length silent)

few_followed : (j k : ℕ) (t : Stepped) (f : Server → Stepped) → Few j t → Few k (f t.server) → Few (j + k) (followed t f)
few_followed j k t f first then =
    omega (arith, ap length (shorts-append t.shown (f t.server).shown), length-append (shorts t.shown) (shorts (f t.server).shown), first, then)

silent_followed : (n : ℕ) (t : Stepped) (f : Server → Stepped) → Silent t → Few n (f t.server) → Few n (followed t f)
silent_followed n t f first then =
    few_more (0 + n) n (followed t f) (omega arith) (few_followed 0 n t f (few_silent 0 t first) then)

-- ---- what waits

waiting_few : (waiting : List Waiting) (r : Reply) → length (shorts (waiting_refused waiting r)) ≡ length waiting
waiting_few [] r = refl
waiting_few (w ∷ waiting) r = omega (arith, waiting_few waiting r)

flight_few : (flight : Option Flight) (r : Reply) → length (shorts (flight_refused flight r)) ≤ 1
flight_few None r = omega arith
flight_few (Some f) r = omega arith

both_few : (flight : Option Flight) (waiting : List Waiting) (r q : Reply) → length (shorts (flight_refused flight r ++ waiting_refused waiting q)) ≤ 1 + length waiting
both_few flight waiting r q =
    omega (
      arith,
      ap length (shorts-append (flight_refused flight r) (waiting_refused waiting q)),
      length-append (shorts (flight_refused flight r)) (shorts (waiting_refused waiting q)),
      flight_few flight r,
      waiting_few waiting q,
    )

-- The lapse answers the write in flight, and those that then wait no longer.
abbrev Lapses : Server → Stepped → Type 0
Lapses s t = length (shorts t.shown) + length t.server.waiting ≤ 1 + length s.waiting

module _ (m : Member) (s : Server) (now : ℕ) where
  refused_few : (phase : Phase) → length (shorts (writes_refused m s now phase)) ≤ 1 + length s.waiting
  refused_few phase = both_few s.flight s.waiting (no_quorum m s now phase applied.Unknown) (no_quorum m s now phase applied.No)

  quiet_lapse : Lapses s (quiet s)
  quiet_lapse = omega arith

  given_up_few : Lapses s (write_given_up m s now)
  given_up_few =
      let sends = sends_to_all m (body.Abort s.version) in
      let silent : shorts sends ≡ [] = sends_silent m 0 m.hosts (λ k. body.Abort s.version ∷ []) in
      omega (
        arith,
        ap length (shorts-append (writes_refused m s now phases.Poll) sends),
        length-append (shorts (writes_refused m s now phases.Poll)) (shorts sends),
        ap length silent,
        refused_few phases.Poll,
      )

  lapse_in : (flight : Option Flight) → Lapses s (write_lapsed m s now flight)
  lapse_in None = quiet_lapse
  lapse_in (Some f) = cond_both (nat_lt (f.began + SMALLTIME) now) _ _ (λ (t : Stepped). Lapses s t) (λ _. given_up_few) (λ _. quiet_lapse)

  dropped_few : Lapses s (phase_dropped m s now)
  dropped_few = omega (arith, refused_few phases.None)

  lapse_few : Lapses s (lapsed m s now)
  lapse_few = cond_both (leased m s now) _ _ (λ (t : Stepped). Lapses s t) (λ _. lapse_in s.flight) (λ _. dropped_few)

-- ---- holders

-- A step that answers the write in flight at most, and leaves those that wait.
record Settles (s : Server) (t : Stepped) : Type 0 where
  pub few : Few 1 t
  pub waiting : t.server.waiting ≡ s.waiting

rests : (s : Server) → Settles s (quiet s)
rests s = record { few = omega arith; waiting = refl }

module _ (m : Member) (s : Server) where
  flight_settles : (poll : Polled) (spread : Spread) (announced : Version) (flight : Option Flight) → Settles s (flight_settled m s poll spread announced flight)
  flight_settles poll spread announced None = rests s
  flight_settles poll spread announced (Some f) =
      cond_both (is_majority (cell_size m) spread.holders) _ _ (λ (t : Stepped). Settles s t)
      (λ _. record { few = omega arith; waiting = refl }) (λ _. rests s)

  settles_in : (phase : PhaseRecord) → Settles s (settled_in m s phase)
  settles_in (Send poll spread) =
      cond_both (is_majority (cell_size m) spread.holders) _ _ (λ (t : Stepped). Settles s t)
      (λ _. record { few = omega arith; waiting = refl }) (λ _. rests s)
  settles_in (Ready poll spread announced) = flight_settles poll spread announced s.flight
  settles_in NoPhase = rests s
  settles_in (Poll poll) = rests s
  settles_in (Fetch poll best from) = rests s
  settles_in (Relabel poll) = rests s

  settles : Settles s (settled m s)
  settles = settles_in s.phase

-- ---- turns of writing calls

-- A turn of a call gives one reply; or it also answers those that waited, and calls are no longer served.
abbrev Turns : ℕ → Stepped → Type 0
Turns n t = Few 1 t ⊎ (Few (1 + n) t × (is_free t.server ≡ false))

turns_few : (n : ℕ) (t : Stepped) → Turns n t → Few (1 + n) t
turns_few n t turns = elim turns [ inl one ↦ few_more 1 (1 + n) t (omega arith) one | inr all ↦ all.0 ]

one_reply : (n : ℕ) (t : Stepped) → length (shorts t.shown) ≡ 1 → Turns n t
one_reply n t one = inl (omega (arith, one))

module _ (db : Database) (m : Member) (s : Server) (now id : ℕ) (call : List ℕ) where
  abbrev WithThose : Stepped → Type 0
  WithThose t = Turns (length s.waiting) t

  last_turns : WithThose (last_counter m s now id)
  last_turns = inr (omega (arith, waiting_few s.waiting (no_quorum m s now phases.Poll applied.No)), refl)

  begun_few : (answer image : List ℕ) (changes : List Change) (poll : Polled) (spread : Spread)
      → Few 1 (followed (own_write_begun m s now id call answer image changes poll spread) (settled m))
  begun_few answer image changes poll spread =
      let begun = own_write_begun m s now id call answer image changes poll spread in
      silent_followed 1 begun (settled m) (sends_silent m 0 m.hosts (λ k. write_bodies s.version (next_version s.version) (text_of changes)))
      (settles m begun.server).few

  in_turns : (answer image : List ℕ) (changes : List Change) (phase : PhaseRecord) → WithThose (written_in m s now id call answer image changes phase)
  in_turns answer image changes NoPhase = inl (omega arith)
  in_turns answer image changes (Poll poll) = inl (omega arith)
  in_turns answer image changes (Fetch poll best from) = inl (omega arith)
  in_turns answer image changes (Relabel poll) = inl (omega arith)
  in_turns answer image changes (Send poll spread) = inl (omega arith)
  in_turns answer image changes (Ready poll spread announced) = inl (begun_few answer image changes poll spread)

  changes_turns : (answer image : List ℕ) (changes : List Change) → WithThose (written_changes m s now id call answer image changes)
  changes_turns answer image changes =
      cond_both (s.version.counter == MAX_COUNTER) _ _ (λ (t : Stepped). WithThose t) (λ _. last_turns) (λ _. in_turns answer image changes s.phase)

  small_turns : (answer image : List ℕ) (changes : List Change) → WithThose (written_small m s now id call answer image changes)
  small_turns answer image [] = inl (omega arith)
  small_turns answer image (change ∷ changes) = changes_turns answer image (change ∷ changes)

  within_turns : (answer image : List ℕ) (changes : List Change) (large : Option ℕ) → WithThose (written_within m s now id call answer image changes large)
  within_turns answer image changes (Some bytes) = inl (omega arith)
  within_turns answer image changes None = small_turns answer image changes

  turned_turns : (image : List ℕ) (r : CallReply) → WithThose (turned db m s now id call image r)
  turned_turns image (call_reply.Done answer) =
      within_turns answer image (changes_of db s.image image) (too_large 0 (length s.image) (changes_of db s.image image))
  turned_turns image (call_reply.Rule number) = inl (omega arith)
  turned_turns image call_reply.Malformed = inl (omega arith)
  turned_turns image (call_reply.BadRecord at) = inl (omega arith)

  turn_turns : (short : Bool) → WithThose (write_turn db m s now id call short)
  turn_turns true = inl (omega arith)
  turn_turns false = turned_turns (db.call s.image now call).image (db.call s.image now call).reply

-- ---- the turns of those that wait

module _ (m : Member) (now : ℕ) where
  module _ (dbs : Databases) (w : Waiting) (waiting : List Waiting) (s : Server) (short : List Bool)
      (rest_few : (after : Server) (later : List Bool) → Few (length waiting) (next_turns (behind_first dbs) m now waiting after later)) where
    abbrev turn : Stepped
    turn = write_turn (dbs 0) m (record s { waiting = waiting }) now w.id w.call (is_short short)

    abbrev rest : Server → Stepped
    rest after = next_turns (behind_first dbs) m now waiting after (short_after turn.shown short)

    turn_few : Few (1 + length waiting) (followed turn rest)
    turn_few =
        elim (turn_turns (dbs 0) m (record s { waiting = waiting }) now w.id w.call (is_short short)) [
          | inl one ↦ few_followed 1 (length waiting) turn rest one (rest_few turn.server (short_after turn.shown short))
          | inr all ↦
              let none : Few 0 (rest turn.server) =
              omega (arith, ap (λ (shown : List Shown). length (shorts shown)) (idle m now (behind_first dbs) waiting turn.server (short_after turn.shown short) all.1)) in
              few_more (1 + length waiting + 0) (1 + length waiting) (followed turn rest) (omega arith)
              (few_followed (1 + length waiting) 0 turn rest all.0 none)
        ]

    either_few : (free : Bool) → Few (1 + length waiting) (cond free (followed turn rest) (quiet s))
    either_few true = turn_few
    either_few false = omega arith

  next_few : (dbs : Databases) (waiting : List Waiting) (s : Server) (short : List Bool) → Few (length waiting) (next_turns dbs m now waiting s short)
  next_few dbs [] s short = omega arith
  next_few dbs (w ∷ waiting) s short =
      omega (arith, either_few dbs w waiting s short (next_few (behind_first dbs) waiting) (is_free s))

  settled_few : (dbs : Databases) (s : Server) (short : List Bool) → Few (1 + length s.waiting) (settled_with_turns dbs m s now short)
  settled_few dbs s short =
      let t = settled m s in
      let first = settles m s in
      let next = next_few dbs t.server.waiting t.server (short_after t.shown short) in
      let same : length t.server.waiting ≡ length s.waiting = ap length first.waiting in
      few_followed 1 (length s.waiting) t (λ after. next_turns dbs m now after.waiting after (short_after t.shown short)) first.few
      (omega (arith, next, same))

-- ---- asks

module _ (db : Database) (m : Member) (s : Server) (now id : ℕ) (call : List ℕ) where
  abbrev Answers : Stepped → Type 0
  Answers t = Few (1 + length s.waiting) t

  reply_few : (e : Evaluation) (r : CallReply) → length (shorts (read_reply id e r ∷ [])) ≡ 1
  reply_few e (call_reply.Done answer) = refl
  reply_few e (call_reply.Rule number) = refl
  reply_few e call_reply.Malformed = refl
  reply_few e (call_reply.BadRecord at) = refl

  read_few : (image : List ℕ) (basis : Basis) (short : Bool) → Answers (read db s now id call image basis short)
  read_few image basis true = omega arith
  read_few image basis false =
      omega (arith, reply_few (record { call = call; moment = now; basis = basis }) (db.call image now call).reply)

  line_few : (f : Flight) (short : Bool) → Answers (put_into_line s id call short f)
  line_few f short =
      cond_both (nat_le MAX_WAITING (length s.waiting)) _ _ (λ (t : Stepped). Answers t) (λ _. omega arith)
      (λ _. cond_both short _ _ (λ (t : Stepped). Answers t) (λ _. omega arith) (λ _. omega arith))

  write_asked_few : (short : Bool) (flight : Option Flight) → Answers (write_asked db m s now id call short flight)
  write_asked_few short None =
      turns_few (length s.waiting) (write_turn db m s now id call short) (turn_turns db m s now id call short)
  write_asked_few short (Some f) = line_few f short

  served_few : (writes short : Bool) → Answers (served db m s now id call writes short)
  served_few true short = write_asked_few short s.flight
  served_few false short = read_few (announced_image s) (Announced_image (told_version s.phase s.version)) short

  elsewhere_few : (writes short may_read : Bool) → Answers (asked_elsewhere db m s now id call writes short may_read)
  elsewhere_few true short may_read = omega arith
  elsewhere_few false short true = read_few s.image (Beacon_image s.version) short
  elsewhere_few false short false = omega arith

  asked_as_few : (short : Bool) (writes : Option Bool) → Answers (asked_as db m s now id call short writes)
  asked_as_few short None = omega arith
  asked_as_few short (Some writes) =
      cond_both (leased m s now) _ _ (λ (t : Stepped). Answers t)
      (λ _. cond_both (is_ready s.phase) _ _ (λ (t : Stepped). Answers t) (λ _. served_few writes short) (λ _. omega arith))
      (λ _. elsewhere_few writes short (allows_reads s.version now s.beacon))

-- ---- recovery

module _ (m : Member) (now : ℕ) where
  relabelled_few : (s : Server) (poll : Polled) → Few 1 (relabelled m s poll now)
  relabelled_few s poll =
      let to = relabelled_to m s poll (first_of_epoch now) in
      cond_both (nat_lt s.version.epoch now) _ _ (λ (t : Stepped). Few 1 t)
      (λ _. silent_followed 1 to (settled m) (sends_silent m 0 m.hosts (λ k. spread_answer to.server poll s.version (entry_at poll.answers k))) (settles m to.server).few)
      (λ _. omega arith)

  best_few : (s : Server) (poll : Polled) (best : Version) → Few 1 (polled_best m s poll now best)
  best_few s poll best = cond_both (version_lt s.version best) _ _ (λ (t : Stepped). Few 1 t) (λ _. omega arith) (λ _. relabelled_few s poll)

  polled_few : (s : Server) (poll : Polled) → Few 1 (polled m s poll now)
  polled_few s poll =
      cond_both (is_majority (cell_size m) (map is_some poll.answers)) _ _ (λ (t : Stepped). Few 1 t)
      (λ _. best_few s poll (best_answer poll)) (λ _. omega arith)

  asked_few : (s : Server) (poll : Polled) → Few 1 (poll_asked m s poll now)
  asked_few s poll =
      silent_followed 1 (showing s (asks_versions m poll.number (has_answered poll))) (λ after. polled m after poll now)
      (sends_silent m 0 m.hosts (λ k. cond (has_answered poll k) [] (body.GetVersion poll.number ∷ []))) (polled_few s poll)

  begun_poll_few : (s : Server) → Few 1 (poll_begun m s now)
  begun_poll_few s = asked_few (polling m s now) (new_poll m s now)

  again_silent : (s : Server) (poll : Polled) (spread : Spread) (announced : Version) → Silent (spread_again m s poll spread announced)
  again_silent s poll spread announced =
      sends_silent m 0 m.hosts (λ k. cond (is_marked spread.holders k) [] (spread_bodies s poll announced s.flight))

  recovered_few : (s : Server) (phase : PhaseRecord) → Few 1 (recovered m s now phase)
  recovered_few s NoPhase = cond_both (leased m s now) _ _ (λ (t : Stepped). Few 1 t) (λ _. begun_poll_few s) (λ _. omega arith)
  recovered_few s (Poll poll) = asked_few s poll
  recovered_few s (Fetch poll best k) =
      cond_both (nat_lt (poll.number + SMALLTIME) now) _ _ (λ (t : Stepped). Few 1 t) (λ _. begun_poll_few s) (λ _. omega arith)
  recovered_few s (Relabel poll) = relabelled_few s poll
  recovered_few s (Send poll spread) =
      silent_followed 1 (spread_again m s poll spread s.version) (settled m) (again_silent s poll spread s.version) (settles m s).few
  recovered_few s (Ready poll spread announced) =
      few_silent 1 (spread_again m s poll spread announced) (again_silent s poll spread announced)

  installed_silent : (s : Server) (best : Version) (image : List ℕ) → Silent (fetch_installed s best image)
  installed_silent s best image = cond_both (version_lt s.version best) _ _ (λ (t : Stepped). Silent t) (λ _. refl) (λ _. refl)

  went_on_few : (s : Server) (poll : Polled) (best : Version) (from : ℕ) (text : Option ReceivedText) → Few 1 (fetch_went_on m s now poll best from text)
  went_on_few s poll best from None = omega arith
  went_on_few s poll best from (Some text) =
      cond_both (is_whole text) _ _ (λ (t : Stepped). Few 1 t)
      (λ _. silent_followed 1 (fetch_installed s best text.bytes) (λ after. relabelled m after poll now) (installed_silent s best text.bytes)
      (relabelled_few (fetch_installed s best text.bytes).server poll))
      (λ _. omega arith)

  piece_few : (s : Server) (k number : ℕ) (version : Version) (total at : ℕ) (bytes : List ℕ) (phase : PhaseRecord)
      → Few 1 (piece_received m s now k number version total at bytes phase)
  piece_few s k number version total at bytes (Fetch poll best from) =
      cond_both (k == from && number == poll.number && version_eq version best) _ _ (λ (t : Stepped). Few 1 t)
      (λ _. went_on_few s poll best from (text_with (bytes_received s.received == 0) k version total at bytes s.received)) (λ _. omega arith)
  piece_few s k number version total at bytes NoPhase = omega arith
  piece_few s k number version total at bytes (Poll poll) = omega arith
  piece_few s k number version total at bytes (Relabel poll) = omega arith
  piece_few s k number version total at bytes (Send poll spread) = omega arith
  piece_few s k number version total at bytes (Ready poll spread announced) = omega arith

-- ---- receivers

module _ (m : Member) (s : Server) (host : Host) where
  set_few : (poll : ℕ) (old new : Version) → Silent (set_version_received m s host poll old new)
  set_few poll old new =
      cond_both (is_sending s.phase) _ _ (λ (t : Stepped). Silent t) (λ _. refl)
      (λ _. cond_both (version_eq s.version new) _ _ (λ (t : Stepped). Silent t) (λ _. refl)
      (λ _. cond_both (version_eq s.version old && version_lt old new) _ _ (λ (t : Stepped). Silent t) (λ _. refl) (λ _. refl)))

  text_few : (poll : ℕ) (text : Option ReceivedText) → Silent (text_went_on m s host poll text)
  text_few poll None = refl
  text_few poll (Some text) = cond_both (is_whole text) _ _ (λ (t : Stepped). Silent t) (λ _. refl) (λ _. refl)

  send_piece_few : (k poll : ℕ) (version : Version) (total at : ℕ) (bytes : List ℕ) → Silent (send_piece_received m s host k poll version total at bytes)
  send_piece_few k poll version total at bytes =
      cond_both (is_sending s.phase || is_fetch s.phase) _ _ (λ (t : Stepped). Silent t) (λ _. refl)
      (λ _. cond_both (version_eq s.version version) _ _ (λ (t : Stepped). Silent t) (λ _. refl)
      (λ _. cond_both (version_lt version s.version) _ _ (λ (t : Stepped). Silent t) (λ _. refl)
      (λ _. text_few poll (text_with true k version total at bytes s.received))))

  begin_few : (old new : Version) (pieces len : ℕ) → Silent (begin_received s old new pieces len)
  begin_few old new pieces len =
      cond_both (is_sending s.phase) _ _ (λ (t : Stepped). Silent t) (λ _. refl)
      (λ _. cond_both (version_eq s.version old && version_lt old new && nat_le pieces MAX_PIECES) _ _ (λ (t : Stepped). Silent t) (λ _. refl) (λ _. refl))

  put_few : (new : Version) (number : ℕ) (bytes : List ℕ) → Silent (put_piece_received s new number bytes)
  put_few new number bytes = cond_both (is_sending s.phase) _ _ (λ (t : Stepped). Silent t) (λ _. refl) (λ _. refl)

  taken_few : (new : Version) (changes : Option (List Change)) → Silent (write_taken m s host new changes)
  taken_few new None = refl
  taken_few new (Some changes) = cond_both (is_none (too_large 0 (length s.image) changes)) _ _ (λ (t : Stepped). Silent t) (λ _. refl) (λ _. refl)

  commit_few : (old new : Version) → Silent (commit_received m s host old new)
  commit_few old new =
      cond_both (is_sending s.phase) _ _ (λ (t : Stepped). Silent t) (λ _. refl)
      (λ _. cond_both (version_eq s.version new) _ _ (λ (t : Stepped). Silent t) (λ _. refl)
      (λ _. cond_both (version_eq s.version old) _ _ (λ (t : Stepped). Silent t) (λ _. taken_few new (whole_write new s.kept)) (λ _. refl)))

  abort_few : (new : Version) → Silent (abort_received s new)
  abort_few new = cond_both (is_sending s.phase) _ _ (λ (t : Stepped). Silent t) (λ _. refl) (λ _. refl)

  get_few : (poll : ℕ) (version : Version) (at : ℕ) → Silent (get_piece_received m s host poll version at)
  get_few poll version at =
      cond_both (version_eq s.version version && (at == 0 || nat_lt at (length s.image))) _ _ (λ (t : Stepped). Silent t) (λ _. refl) (λ _. refl)

  lacking_few : (poll : Polled) (spread : Spread) (version : Version) (flight : Option Flight) → Silent (lacking_sent m s host poll spread version flight)
  lacking_few poll spread version None = refl
  lacking_few poll spread version (Some f) = refl

  next_sent_few : (poll : Polled) (version : Version) (next : ℕ) (flight : Option Flight) → Silent (next_sent m s host poll version next flight)
  next_sent_few poll version next None =
      cond_both (version_eq version s.version && nat_lt next (length s.image)) _ _ (λ (t : Stepped). Silent t) (λ _. refl) (λ _. refl)
  next_sent_few poll version next (Some f) = refl

  kept_few : (version : Version) (next : ℕ) (phase : PhaseRecord) → Silent (piece_kept_received m s host version next phase)
  kept_few version next (Send poll spread) = next_sent_few poll version next s.flight
  kept_few version next (Ready poll spread announced) = next_sent_few poll version next s.flight
  kept_few version next NoPhase = refl
  kept_few version next (Poll poll) = refl
  kept_few version next (Fetch poll best from) = refl
  kept_few version next (Relabel poll) = refl

-- ---- packets

module _ (dbs : Databases) (m : Member) (s : Server) (now : ℕ) (host : Host) (k : ℕ) (short : List Bool) where
  abbrev Heard : Stepped → Type 0
  Heard t = Few (1 + length s.waiting) t

  one_heard : (t : Stepped) → Few 1 t → Heard t
  one_heard t one = few_more 1 (1 + length s.waiting) t (omega arith) one

  heard_silent : (t : Stepped) → Silent t → Heard t
  heard_silent t silent = few_silent (1 + length s.waiting) t silent

  holder_few : Heard (holder_added dbs m s now k short)
  holder_few = settled_few m now dbs (with_phase s (held_by s.phase k)) short

  told_few : (poll : Polled) (spread : Spread) (number : ℕ) (version : Version) → Heard (told_to_spread dbs m s now host k poll spread number version short)
  told_few poll spread number version =
      cond_both (number == poll.number) _ _ (λ (t : Stepped). Heard t)
      (λ _. cond_both (version_eq version s.version) _ _ (λ (t : Stepped). Heard t) (λ _. holder_few)
      (λ _. heard_silent (lacking_sent m s host poll spread version s.flight) (lacking_few m s host poll spread version s.flight)))
      (λ _. omega arith)

  version_few : (number : ℕ) (version : Version) (phase : PhaseRecord) → Heard (version_is_received dbs m s now host k number version short phase)
  version_few number version (Poll poll) =
      cond_both (number == poll.number) _ _ (λ (t : Stepped). Heard t)
      (λ _. one_heard (polled m s (with_answer poll k version) now) (polled_few m now s (with_answer poll k version))) (λ _. omega arith)
  version_few number version (Fetch poll best from) =
      cond_both (from == k && not (version_eq version best)) _ _ (λ (t : Stepped). Heard t) (λ _. omega arith) (λ _. omega arith)
  version_few number version (Send poll spread) = told_few poll spread number version
  version_few number version (Ready poll spread announced) = told_few poll spread number version
  version_few number version NoPhase = omega arith
  version_few number version (Relabel poll) = omega arith

  version_kept_few : (version : Version) (phase : PhaseRecord) → Heard (version_kept_received dbs m s now k version short phase)
  version_kept_few version (Send poll spread) =
      cond_both (version_eq version s.version) _ _ (λ (t : Stepped). Heard t) (λ _. holder_few) (λ _. omega arith)
  version_kept_few version (Ready poll spread announced) =
      cond_both (version_eq version s.version) _ _ (λ (t : Stepped). Heard t) (λ _. holder_few) (λ _. omega arith)
  version_kept_few version NoPhase = omega arith
  version_kept_few version (Poll poll) = omega arith
  version_kept_few version (Fetch poll best from) = omega arith
  version_kept_few version (Relabel poll) = omega arith

  abbrev heard : Body → Stepped
  heard b = received_from dbs m s now host k b short

  body_few : (b : Body) → Heard (heard b)
  body_few (body.VersionIs poll version) = version_few poll version s.phase
  body_few (body.VersionKept version) = version_kept_few version s.phase
  body_few (body.Beacon start claim ready version) = heard_silent (heard (body.Beacon start claim ready version)) refl
  body_few (body.Vote start granted) = heard_silent (heard (body.Vote start granted)) refl
  body_few (body.GetVersion poll) = heard_silent (heard (body.GetVersion poll)) refl
  body_few (body.GetPiece poll version offset) = heard_silent (heard (body.GetPiece poll version offset)) (get_few m s host poll version offset)
  body_few (body.Piece poll version total offset bytes) =
      one_heard (heard (body.Piece poll version total offset bytes)) (piece_few m now s k poll version total offset bytes s.phase)
  body_few (body.SendPiece poll version total offset bytes) =
      heard_silent (heard (body.SendPiece poll version total offset bytes)) (send_piece_few m s host k poll version total offset bytes)
  body_few (body.PieceKept poll version next) = heard_silent (heard (body.PieceKept poll version next)) (kept_few m s host version next s.phase)
  body_few (body.SetVersion poll old new) = heard_silent (heard (body.SetVersion poll old new)) (set_few m s host poll old new)
  body_few (body.Begin old new pieces len) = heard_silent (heard (body.Begin old new pieces len)) (begin_few m s host old new pieces len)
  body_few (body.PutPiece new number bytes) = heard_silent (heard (body.PutPiece new number bytes)) (put_few m s host new number bytes)
  body_few (body.Commit old new) = heard_silent (heard (body.Commit old new)) (commit_few m s host old new)
  body_few (body.Abort new) = heard_silent (heard (body.Abort new)) (abort_few m s host new)

-- ---- a step

packet_few : (dbs : Databases) (m : Member) (s : Server) (now : ℕ) (p : Packet) (short : List Bool) (place : Option ℕ)
    → Few (1 + length s.waiting) (received_packet dbs m s now p short place)
packet_few dbs m s now p short None = omega arith
packet_few dbs m s now p short (Some k) = body_few dbs m s now p.from k short p.body

beacon_few : (m : Member) (s : Server) (now : ℕ) → Silent (beacon_turn m s now)
beacon_few m s now =
    cond_both (beacon_is_due s.votes now m.me (leased m s now)) _ _ (λ (t : Stepped). Silent t)
    (λ _. sends_silent m 0 m.hosts (λ k. own_beacon s now (leased m s now) ∷ [])) (λ _. refl)

handled_few : (dbs : Databases) (m : Member) (s : Server) (now : ℕ) (e : NodeEvent) (short : List Bool) → Few (1 + length s.waiting) (handled dbs m s now e short)
handled_few dbs m s now (event.Packet p) short = packet_few dbs m s now p short (place_of m.hosts p.from)
handled_few dbs m s now event.BeaconTurn short = few_silent (1 + length s.waiting) (beacon_turn m s now) (beacon_few m s now)
handled_few dbs m s now event.RecoverTurn short =
    few_more 1 (1 + length s.waiting) (recovered m s now s.phase) (omega arith) (recovered_few m now s s.phase)
handled_few dbs m s now (event.Ask id call) short = asked_as_few (dbs 0) m s now id call (is_short short) ((dbs 0).writes call)

-- at most one for each call that waits, and two more
pub step_few : (dbs : Databases) (m : Member) (s : Server) (now : ℕ) (e : NodeEvent) (short : List Bool) → Few (length s.waiting + 2) (step_by dbs m s now e short)
unfolding step_by
step_few dbs m s now e short =
    let t = lapsed m s now in
    let f = λ (after : Server). handled dbs m after now e (short_after t.shown short) in
    let first = lapse_few m s now in
    let next = handled_few dbs m t.server now e (short_after t.shown short) in
    let both = few_followed (length (shorts t.shown)) (1 + length t.server.waiting) t f (omega arith) next in
    omega (arith, both, first)
