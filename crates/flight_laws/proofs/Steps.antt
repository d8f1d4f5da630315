-- In each step of a server the changes that it takes from another one are those of the write that it keeps.
use Rattle.std.proofs.Common.{Bool, true, false, cond, not, ◌==◌, ◌&&◌, ◌||◌, ◌≡◌, ◌+◌, ℕ, List, [], ◌∷◌, ◌++◌, length, map, nat_le, nat_lt, refl, sym}
use Rattle.std.proofs.Common.{subst}
use Rattle.std.specs.Prelude.{Option, Some, None, is_none, is_some}
use Rattle.lock_table.specs.declared.tables.TheConstants.{MAX_WAITING}
use Rattle.ubik_types.specs.declared.hosts.Host.{Host}
use Rattle.ubik_types.specs.declared.images.Change.{Change}
use Rattle.ubik_types.specs.declared.limits.TheConstants.{SMALLTIME}
use Rattle.ubik_types.specs.declared.phases.Applied.TheVariants as applied
use Rattle.ubik_types.specs.declared.versions.TheConstants.{MAX_COUNTER}
use Rattle.ubik_types.specs.declared.versions.Version.{Version}
use Rattle.ubik_types.specs.Logged.{too_large}
use Rattle.ubik_types.specs.Phase.{Polled, Spread, PhaseRecord, NoPhase, Poll, Fetch, Relabel, Send, Ready, phase_of}
use Rattle.ubik_types.specs.Quorum.{is_majority}
use Rattle.ubik_types.specs.Version.{version_eq, version_lt}
use Rattle.ubik_types.specs.Votes.{beacon_is_due}
use Rattle.ubik_calls.specs.declared.packets.Body.{Body}
use Rattle.ubik_calls.specs.declared.packets.Body.TheVariants as body
use Rattle.ubik_calls.specs.declared.packets.Packet.{Packet}
use Rattle.ubik_calls.specs.declared.packets.TheConstants.{MAX_PIECES}
use Rattle.ubik_calls.specs.declared.replies.Reply.TheVariants as reply
use Rattle.db_image.specs.declared.services.CallReply.{CallReply}
use Rattle.db_image.specs.declared.services.CallReply.TheVariants as call_reply
use Rattle.db_image.specs.Database.{Database, changes_of}
use Rattle.cell_model.specs.declared.events.NodeEvent.{NodeEvent}
use Rattle.cell_model.specs.declared.events.NodeEvent.TheVariants as event
use Rattle.cell_model.specs.Asks.{allows_reads, asked_as, asked_elsewhere, read, served, write_asked}
use Rattle.cell_model.specs.Durable.{Made}
use Rattle.cell_model.specs.Evaluating.{always}
use Rattle.cell_model.specs.Lapse.{lapsed, no_quorum, phase_dropped, write_given_up, write_lapsed}
use Rattle.cell_model.specs.Node.{Server, Flight, KeptWrite, ReceivedText, Waiting}
use Rattle.cell_model.specs.NodeRule.{handled, place_of, received_from, received_packet, step_of, step_by}
use Rattle.cell_model.specs.Pieces.{piece_from}
use Rattle.cell_model.specs.Polls.{best_answer, first_with, new_poll, polling, with_answer}
use Rattle.cell_model.specs.Receiver.{answers_version_is, answers_version_kept, begin_received, commit_received, committed_by, empty_write, is_sending}
use Rattle.cell_model.specs.Receiver.{kept_but, kept_with, relabelled_by, send_piece_received, set_version_received, text_went_on, whole_write, write_taken}
use Rattle.cell_model.specs.Recovery.{asks_versions, bytes_received, fetch_installed, fetch_went_on, fetched_from, first_of_epoch, has_answered, held_by}
use Rattle.cell_model.specs.Recovery.{holder_added, installed, is_whole, lacking_sent, next_asked, next_sent, piece_kept_received, piece_received, poll_asked}
use Rattle.cell_model.specs.Recovery.{poll_begun, polled, polled_best, recovered, relabelled, relabelled_to, sent_piece, spread_again, text_with}
use Rattle.cell_model.specs.Recovery.{told_to_spread, version_is_received, version_kept_received}
use Rattle.cell_model.specs.Step.{Announced_image, Basis, Beacon_image, Member, Stepped, announcing, cell_size, followed, is_fetch, is_ready, is_short}
use Rattle.cell_model.specs.Step.{leased, quiet, refusing, sends_to, short_after, showing, told_version, with_phase}
use Rattle.cell_model.specs.Voting.{beacon_taken}
use Rattle.cell_model.specs.Writes.{announced_image, ended_write, flight_settled, is_free, last_counter, next_turns, own_write_begun, settled, settled_in}
use Rattle.cell_model.specs.Writes.{settled_with_turns, turned, write_turn, written_in, written_small, written_within}
use Rattle.flight_laws.specs.Taken.{AllTakePuts}
use Rattle.flight_laws.proofs.Kept.{AllPuts, logged_put}

abbrev Puts : Stepped → Type 0
Puts t = AllTakePuts t.calls

both_take : (a b : List Made) → AllTakePuts a → AllTakePuts b → AllTakePuts (a ++ b)
both_take [] b first second = second
both_take (made ∷ a) b first second = (first.0, both_take a b first.1 second)

then_puts : (t : Stepped) (next : Server → Stepped) → Puts t → Puts (next t.server) → Puts (followed t next)
then_puts t next first second = both_take t.calls (next t.server).calls first second

if_puts : (b : Bool) (x y : Stepped) → Puts x → Puts y → Puts (cond b x y)
if_puts true x y first second = first
if_puts false x y first second = second

-- ---- writes

module _ (m : Member) where
  flight_puts : (s : Server) (poll : Polled) (spread : Spread) (announced : Version) (f : Option Flight) →
      Puts (flight_settled m s poll spread announced f)
  flight_puts s poll spread announced None = tt
  flight_puts s poll spread announced (Some f) =
      if_puts (is_majority (cell_size m) spread.holders) (ended_write s f poll spread announced) (quiet s) tt tt

  settled_puts : (s : Server) (phase : PhaseRecord) → Puts (settled_in m s phase)
  settled_puts s NoPhase = tt
  settled_puts s (Poll poll) = tt
  settled_puts s (Fetch poll best host) = tt
  settled_puts s (Relabel poll) = tt
  settled_puts s (Send poll spread) =
      if_puts (is_majority (cell_size m) spread.holders)
      (showing (with_phase s (Ready poll spread s.version)) (announcing s.version ∷ [])) (quiet s) tt tt
  settled_puts s (Ready poll spread announced) = flight_puts s poll spread announced s.flight

module _ (db : Database) (m : Member) (now : ℕ) where
  begun_puts : (s : Server) (id : ℕ) (call answer image : List ℕ) (changes : List Change) (phase : PhaseRecord) →
      Puts (written_in m s now id call answer image changes phase)
  begun_puts s id call answer image changes NoPhase = tt
  begun_puts s id call answer image changes (Poll poll) = tt
  begun_puts s id call answer image changes (Fetch poll best host) = tt
  begun_puts s id call answer image changes (Relabel poll) = tt
  begun_puts s id call answer image changes (Send poll spread) = tt
  begun_puts s id call answer image changes (Ready poll spread announced) =
      let t = own_write_begun m s now id call answer image changes poll spread in
      then_puts t (settled m) (tt, tt) (settled_puts m t.server t.server.phase)

  small_puts : (s : Server) (id : ℕ) (call answer image : List ℕ) (changes : List Change) →
      Puts (written_small m s now id call answer image changes)
  small_puts s id call answer image [] = tt
  small_puts s id call answer image (change ∷ changes) =
      if_puts (s.version.counter == MAX_COUNTER) (last_counter m s now id)
      (written_in m s now id call answer image (change ∷ changes) s.phase) tt (begun_puts s id call answer image (change ∷ changes) s.phase)

  within_puts : (s : Server) (id : ℕ) (call answer image : List ℕ) (changes : List Change) (o : Option ℕ) →
      Puts (written_within m s now id call answer image changes o)
  within_puts s id call answer image changes None = small_puts s id call answer image changes
  within_puts s id call answer image changes (Some bytes) = tt

  turned_puts : (s : Server) (id : ℕ) (call image : List ℕ) (r : CallReply) → Puts (turned db m s now id call image r)
  turned_puts s id call image (call_reply.Done answer) = within_puts s id call answer image (changes_of db s.image image)
      (too_large 0 (length s.image) (changes_of db s.image image))
  turned_puts s id call image (call_reply.Rule number) = tt
  turned_puts s id call image call_reply.Malformed = tt
  turned_puts s id call image (call_reply.BadRecord at) = tt

  turn_puts : (s : Server) (id : ℕ) (call : List ℕ) (short : Bool) → Puts (write_turn db m s now id call short)
  turn_puts s id call true = tt
  turn_puts s id call false = turned_puts s id call (db.call s.image now call).image (db.call s.image now call).reply

  turns_puts : (waiting : List Waiting) (s : Server) (short : List Bool) → Puts (next_turns (always db) m now waiting s short)
  turns_puts [] s short = tt
  turns_puts (w ∷ waiting) s short =
      let t = write_turn db m (record s { waiting = waiting }) now w.id w.call (is_short short) in
      let next : Server → Stepped = λ after. next_turns (always db) m now waiting after (short_after t.shown short) in
      if_puts (is_free s) (followed t next) (quiet s)
      (then_puts t next (turn_puts (record s { waiting = waiting }) w.id w.call (is_short short))
      (turns_puts waiting t.server (short_after t.shown short))) tt

  served_puts : (s : Server) (short : List Bool) → Puts (settled_with_turns (always db) m s now short)
  served_puts s short =
      let t = settled m s in
      then_puts t (λ after. next_turns (always db) m now after.waiting after (short_after t.shown short)) (settled_puts m s s.phase) (turns_puts t.server.waiting t.server (short_after t.shown short))

  read_puts : (s : Server) (id : ℕ) (call image : List ℕ) (basis : Basis) (short : Bool) → Puts (read db s now id call image basis short)
  read_puts s id call image basis true = tt
  read_puts s id call image basis false = tt

  elsewhere_puts : (s : Server) (id : ℕ) (call : List ℕ) (short may_read : Bool) → Puts (asked_elsewhere db m s now id call false short may_read)
  elsewhere_puts s id call short true = read_puts s id call s.image (Beacon_image s.version) short
  elsewhere_puts s id call short false = tt

  room_puts : (s : Server) (id : ℕ) (call : List ℕ) (short : Bool) (f : Flight) →
      Puts (cond short (showing s (refusing id reply.NoMemory ∷ [])) (showing (record s { waiting = s.waiting ++ record { id = id; call = call } ∷ [] }) []))
  room_puts s id call true f = tt
  room_puts s id call false f = tt

  line_puts : (s : Server) (id : ℕ) (call : List ℕ) (short : Bool) (f : Option Flight) → Puts (write_asked db m s now id call short f)
  line_puts s id call short None = turn_puts s id call short
  line_puts s id call short (Some f) =
      if_puts (nat_le MAX_WAITING (length s.waiting)) (showing s (refusing id (reply.LineFull f.id) ∷ []))
      (cond short (showing s (refusing id reply.NoMemory ∷ [])) (showing (record s { waiting = s.waiting ++ record { id = id; call = call } ∷ [] }) []))
      tt (room_puts s id call short f)

  abbrev refused : Server → ℕ → Stepped
  refused s id = showing s (refusing id (no_quorum m s now (phase_of s.phase) applied.No) ∷ [])

  asked_puts : (s : Server) (id : ℕ) (call : List ℕ) (short : Bool) (o : Option Bool) → Puts (asked_as db m s now id call short o)
  asked_puts s id call short None = tt
  asked_puts s id call short (Some true) =
      if_puts (leased m s now) (cond (is_ready s.phase) (served db m s now id call true short) (refused s id)) (asked_elsewhere db m s now id call true short (allows_reads s.version now s.beacon))
      (if_puts (is_ready s.phase) (served db m s now id call true short) (refused s id) (line_puts s id call short s.flight) tt) tt
  asked_puts s id call short (Some false) =
      if_puts (leased m s now) (cond (is_ready s.phase) (served db m s now id call false short) (refused s id))
      (asked_elsewhere db m s now id call false short (allows_reads s.version now s.beacon))
      (if_puts (is_ready s.phase) (served db m s now id call false short) (refused s id)
      (read_puts s id call (announced_image s) (Announced_image (told_version s.phase s.version)) short) tt)
      (elsewhere_puts s id call short (allows_reads s.version now s.beacon))

  -- ---- recovery

  relabelled_puts : (s : Server) (poll : Polled) → Puts (relabelled m s poll now)
  relabelled_puts s poll =
      let t = relabelled_to m s poll (first_of_epoch now) in
      if_puts (nat_lt s.version.epoch now) (followed t (settled m)) (quiet (with_phase s (Relabel poll)))
      (then_puts t (settled m) (tt, tt) (settled_puts m t.server t.server.phase)) tt

  best_puts : (s : Server) (poll : Polled) (best : Version) → Puts (polled_best m s poll now best)
  best_puts s poll best =
      if_puts (version_lt s.version best) (fetched_from m s poll best (first_with best poll.answers)) (relabelled m s poll now) tt
      (relabelled_puts s poll)

  polled_puts : (s : Server) (poll : Polled) → Puts (polled m s poll now)
  polled_puts s poll =
      if_puts (is_majority (cell_size m) (map is_some poll.answers)) (polled_best m s poll now (best_answer poll)) (quiet (with_phase s (Poll poll)))
      (best_puts s poll (best_answer poll)) tt

  poll_puts : (s : Server) (poll : Polled) → Puts (poll_asked m s poll now)
  poll_puts s poll = then_puts (showing s (asks_versions m poll.number (has_answered poll))) (λ after. polled m after poll now) tt (polled_puts s poll)

  recovered_puts : (s : Server) (phase : PhaseRecord) → Puts (recovered m s now phase)
  recovered_puts s NoPhase = if_puts (leased m s now) (poll_begun m s now) (quiet s) (poll_puts (polling m s now) (new_poll m s now)) tt
  recovered_puts s (Poll poll) = poll_puts s poll
  recovered_puts s (Fetch poll best k) =
      if_puts (nat_lt (poll.number + SMALLTIME) now) (poll_begun m s now) (next_asked m s poll best k) (poll_puts (polling m s now) (new_poll m s now)) tt
  recovered_puts s (Relabel poll) = relabelled_puts s poll
  recovered_puts s (Send poll spread) = then_puts (spread_again m s poll spread s.version) (settled m) tt (settled_puts m s s.phase)
  recovered_puts s (Ready poll spread announced) = tt

  lacking_puts : (s : Server) (host : Host) (poll : Polled) (spread : Spread) (version : Version) (f : Option Flight) →
      Puts (lacking_sent m s host poll spread version f)
  lacking_puts s host poll spread version None = tt
  lacking_puts s host poll spread version (Some f) = tt

  told_puts : (s : Server) (host : Host) (k : ℕ) (poll : Polled) (spread : Spread) (number : ℕ) (version : Version) (short : List Bool) →
      Puts (told_to_spread (always db) m s now host k poll spread number version short)
  told_puts s host k poll spread number version short =
      let lacking = lacking_sent m s host poll spread version s.flight in
      let holds = holder_added (always db) m s now k short in
      if_puts (number == poll.number) (cond (version_eq version s.version) holds lacking) (quiet s)
      (if_puts (version_eq version s.version) holds lacking (served_puts (with_phase s (held_by s.phase k)) short)
      (lacking_puts s host poll spread version s.flight)) tt

  version_puts : (s : Server) (host : Host) (k number : ℕ) (version : Version) (short : List Bool) (phase : PhaseRecord) →
      Puts (version_is_received (always db) m s now host k number version short phase)
  version_puts s host k number version short NoPhase = tt
  version_puts s host k number version short (Poll poll) =
      if_puts (number == poll.number) (polled m s (with_answer poll k version) now) (quiet s) (polled_puts s (with_answer poll k version)) tt
  version_puts s host k number version short (Fetch poll best from) =
      if_puts (from == k && not (version_eq version best)) (quiet (polling m s now)) (quiet s) tt tt
  version_puts s host k number version short (Relabel poll) = tt
  version_puts s host k number version short (Send poll spread) = told_puts s host k poll spread number version short
  version_puts s host k number version short (Ready poll spread announced) = told_puts s host k poll spread number version short

  holds_puts : (s : Server) (k : ℕ) (version : Version) (short : List Bool) →
      Puts (cond (version_eq version s.version) (holder_added (always db) m s now k short) (quiet s))
  holds_puts s k version short =
      if_puts (version_eq version s.version) (holder_added (always db) m s now k short) (quiet s) (served_puts (with_phase s (held_by s.phase k)) short) tt

  kept_puts : (s : Server) (k : ℕ) (version : Version) (short : List Bool) (phase : PhaseRecord) →
      Puts (version_kept_received (always db) m s now k version short phase)
  kept_puts s k version short NoPhase = tt
  kept_puts s k version short (Poll poll) = tt
  kept_puts s k version short (Fetch poll best from) = tt
  kept_puts s k version short (Relabel poll) = tt
  kept_puts s k version short (Send poll spread) = holds_puts s k version short
  kept_puts s k version short (Ready poll spread announced) = holds_puts s k version short

  next_puts : (s : Server) (host : Host) (poll : Polled) (version : Version) (next : ℕ) (f : Option Flight) →
      Puts (next_sent m s host poll version next f)
  next_puts s host poll version next None =
      if_puts (version_eq version s.version && nat_lt next (length s.image)) (showing s (sends_to m host (sent_piece s poll.number next))) (quiet s)
      tt tt
  next_puts s host poll version next (Some f) = tt

  more_puts : (s : Server) (host : Host) (version : Version) (next : ℕ) (phase : PhaseRecord) →
      Puts (piece_kept_received m s host version next phase)
  more_puts s host version next NoPhase = tt
  more_puts s host version next (Poll poll) = tt
  more_puts s host version next (Fetch poll best from) = tt
  more_puts s host version next (Relabel poll) = tt
  more_puts s host version next (Send poll spread) = next_puts s host poll version next s.flight
  more_puts s host version next (Ready poll spread announced) = next_puts s host poll version next s.flight

  installed_puts : (s : Server) (best : Version) (image : List ℕ) → Puts (fetch_installed s best image)
  installed_puts s best image = if_puts (version_lt s.version best) (installed s best image) (quiet s) (tt, tt) tt

  fetch_puts : (s : Server) (poll : Polled) (best : Version) (from : ℕ) (o : Option ReceivedText) →
      Puts (fetch_went_on m s now poll best from o)
  fetch_puts s poll best from None = tt
  fetch_puts s poll best from (Some text) =
      if_puts (is_whole text) (followed (fetch_installed s best text.bytes) (λ after. relabelled m after poll now))
      (next_asked m (record s { received = Some text }) poll best from)
      (then_puts (fetch_installed s best text.bytes) (λ after. relabelled m after poll now) (installed_puts s best text.bytes)
      (relabelled_puts (fetch_installed s best text.bytes).server poll)) tt

  piece_puts : (s : Server) (k number : ℕ) (version : Version) (total at : ℕ) (bytes : List ℕ) (phase : PhaseRecord) →
      Puts (piece_received m s now k number version total at bytes phase)
  piece_puts s k number version total at bytes NoPhase = tt
  piece_puts s k number version total at bytes (Poll poll) = tt
  piece_puts s k number version total at bytes (Fetch poll best from) =
      let text = text_with (bytes_received s.received == 0) k version total at bytes s.received in
      if_puts (k == from && number == poll.number && version_eq version best) (fetch_went_on m s now poll best from text) (quiet s)
      (fetch_puts s poll best from text) tt
  piece_puts s k number version total at bytes (Relabel poll) = tt
  piece_puts s k number version total at bytes (Send poll spread) = tt
  piece_puts s k number version total at bytes (Ready poll spread announced) = tt

  -- ---- packets of a sync site

  set_puts : (s : Server) (host : Host) (poll : ℕ) (old new : Version) → Puts (set_version_received m s host poll old new)
  set_puts s host poll old new =
      let takes = followed (relabelled_by s new) (answers_version_kept m host) in
      let told = answers_version_is m host poll s in
      let goes = version_eq s.version old && version_lt old new in
      if_puts (is_sending s.phase) (quiet s) (cond (version_eq s.version new) (answers_version_kept m host s) (cond goes takes told)) tt
      (if_puts (version_eq s.version new) (answers_version_kept m host s) (cond goes takes told) tt
      (if_puts goes takes told (then_puts (relabelled_by s new) (answers_version_kept m host) (tt, tt) tt) tt))

  text_puts : (s : Server) (host : Host) (poll : ℕ) (o : Option ReceivedText) → Puts (text_went_on m s host poll o)
  text_puts s host poll None = tt
  text_puts s host poll (Some text) =
      if_puts (is_whole text) (followed (installed s text.version text.bytes) (answers_version_kept m host))
      (showing (record s { received = Some text }) (sends_to m host (body.PieceKept poll text.version (length text.bytes))))
      (then_puts (installed s text.version text.bytes) (answers_version_kept m host) (tt, tt) tt) tt

  send_puts : (s : Server) (host : Host) (k poll : ℕ) (version : Version) (total at : ℕ) (bytes : List ℕ) →
      Puts (send_piece_received m s host k poll version total at bytes)
  send_puts s host k poll version total at bytes =
      let text = text_went_on m s host poll (text_with true k version total at bytes s.received) in
      let older = answers_version_is m host poll s in
      let same = answers_version_kept m host s in
      if_puts (is_sending s.phase || is_fetch s.phase) (quiet s)
      (cond (version_eq s.version version) same (cond (version_lt version s.version) older text)) tt
      (if_puts (version_eq s.version version) same (cond (version_lt version s.version) older text) tt
      (if_puts (version_lt version s.version) older text tt (text_puts s host poll (text_with true k version total at bytes s.received))))

  begin_puts : (s : Server) (old new : Version) (pieces len : ℕ) → Puts (begin_received s old new pieces len)
  begin_puts s old new pieces len =
      let begun = quiet (record s { kept = Some (empty_write old new pieces len) }) in
      let may = version_eq s.version old && version_lt old new && nat_le pieces MAX_PIECES in
      if_puts (is_sending s.phase) (quiet s) (cond may begun (quiet s)) tt (if_puts may begun (quiet s) tt tt)

  taken_puts : (s : Server) (host : Host) (new : Version) (o : Option (List Change)) →
      ((changes : List Change) → o ≡ Some changes → AllPuts changes) → Puts (write_taken m s host new o)
  taken_puts s host new None puts = tt
  taken_puts s host new (Some changes) puts =
      if_puts (is_none (too_large 0 (length s.image) changes)) (followed (committed_by s new changes) (answers_version_kept m host)) (quiet s)
      (then_puts (committed_by s new changes) (answers_version_kept m host) (logged_put (length s.image) changes (puts changes refl), tt) tt) tt

  -- what a server keeps is made of puts
  abbrev pub KeepsPuts : Option KeptWrite → Type 0
  KeepsPuts kept = (new : Version) (changes : List Change) → whole_write new kept ≡ Some changes → AllPuts changes

  commit_puts : (s : Server) (host : Host) (old new : Version) → KeepsPuts s.kept → Puts (commit_received m s host old new)
  commit_puts s host old new puts =
      let taken = write_taken m s host new (whole_write new s.kept) in
      let same = answers_version_kept m host s in
      if_puts (is_sending s.phase) (quiet s) (cond (version_eq s.version new) same (cond (version_eq s.version old) taken (quiet s))) tt
      (if_puts (version_eq s.version new) same (cond (version_eq s.version old) taken (quiet s)) tt
      (if_puts (version_eq s.version old) taken (quiet s) (taken_puts s host new (whole_write new s.kept) (puts new)) tt))

  received_puts : (s : Server) (host : Host) (k : ℕ) (b : Body) (short : List Bool) → KeepsPuts s.kept →
      Puts (received_from (always db) m s now host k b short)
  received_puts s host k (body.Beacon start claim ready version) short puts = tt
  received_puts s host k (body.Vote start granted) short puts = tt
  received_puts s host k (body.GetVersion poll) short puts = tt
  received_puts s host k (body.VersionIs poll version) short puts = version_puts s host k poll version short s.phase
  received_puts s host k (body.GetPiece poll version offset) short puts =
      if_puts (version_eq s.version version && (offset == 0 || nat_lt offset (length s.image)))
      (showing s (sends_to m host (body.Piece poll version (length s.image) offset (piece_from s.image offset)))) (answers_version_is m host poll s) tt tt
  received_puts s host k (body.Piece poll version total offset bytes) short puts = piece_puts s k poll version total offset bytes s.phase
  received_puts s host k (body.SendPiece poll version total offset bytes) short puts = send_puts s host k poll version total offset bytes
  received_puts s host k (body.PieceKept poll version next) short puts = more_puts s host version next s.phase
  received_puts s host k (body.SetVersion poll old new) short puts = set_puts s host poll old new
  received_puts s host k (body.Begin old new pieces len) short puts = begin_puts s old new pieces len
  received_puts s host k (body.PutPiece new number bytes) short puts =
      if_puts (is_sending s.phase) (quiet s) (quiet (record s { kept = kept_with new number bytes s.kept })) tt tt
  received_puts s host k (body.Commit old new) short puts = commit_puts s host old new puts
  received_puts s host k (body.Abort new) short puts =
      if_puts (is_sending s.phase) (quiet s) (quiet (record s { kept = kept_but new s.kept })) tt tt
  received_puts s host k (body.VersionKept version) short puts = kept_puts s k version short s.phase

  packet_puts : (s : Server) (p : Packet) (short : List Bool) (o : Option ℕ) → KeepsPuts s.kept → Puts (received_packet (always db) m s now p short o)
  packet_puts s p short None puts = tt
  packet_puts s p short (Some k) puts = received_puts s p.from k p.body short puts

  -- ---- steps

  handled_puts : (s : Server) (e : NodeEvent) (short : List Bool) → KeepsPuts s.kept → Puts (handled (always db) m s now e short)
  handled_puts s (event.Packet p) short puts = packet_puts s p short (place_of m.hosts p.from) puts
  handled_puts s event.BeaconTurn short puts =
      if_puts (beacon_is_due s.votes now m.me (leased m s now)) (beacon_taken m s now (leased m s now)) (quiet s) tt tt
  handled_puts s event.RecoverTurn short puts = recovered_puts s s.phase
  handled_puts s (event.Ask id call) short puts = asked_puts s id call (is_short short) (db.writes call)

  -- the lapse takes nothing, and keeps what is kept
  record Lapses (s : Server) (t : Stepped) : Type 0 where
    none : t.calls ≡ []
    kept : t.server.kept ≡ s.kept

  if_lapses : (s : Server) (b : Bool) (x y : Stepped) → Lapses s x → Lapses s y → Lapses s (cond b x y)
  if_lapses s true x y first second = first
  if_lapses s false x y first second = second

  lapse_of : (s : Server) (f : Option Flight) → Lapses s (write_lapsed m s now f)
  lapse_of s None = record { none = refl; kept = refl }
  lapse_of s (Some f) =
      if_lapses s (nat_lt (f.began + SMALLTIME) now) (write_given_up m s now) (quiet s) (record { none = refl; kept = refl })
      (record { none = refl; kept = refl })

  lapse : (s : Server) → Lapses s (lapsed m s now)
  lapse s =
      if_lapses s (leased m s now) (write_lapsed m s now s.flight) (phase_dropped m s now) (lapse_of s s.flight) (record { none = refl; kept = refl })

pub step_puts : (db : Database) (m : Member) (now : ℕ) (s : Server) (e : NodeEvent) (short : List Bool) → KeepsPuts db m now s.kept →
    AllTakePuts (step_of db m s now e short).calls
unfolding step_by
step_puts db m now s e short puts =
    let t = lapsed m s now in
    let l = lapse db m now s in
    then_puts t (λ after. handled (always db) m after now e (short_after t.shown short)) (subst AllTakePuts (sym l.none) tt)
    (handled_puts db m now t.server e (short_after t.shown short) (subst (KeepsPuts db m now) (sym l.kept) puts))
