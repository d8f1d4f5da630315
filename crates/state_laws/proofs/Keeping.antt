-- A step of a server whose images stand for states leaves such images, but for what it takes over from another server.
use Rattle.std.proofs.Common.{Bool, true, false, ◌==◌, ℕ, List, [], ◌∷◌, ◌++◌}
use Rattle.std.proofs.lemmas.Bool.{cond_both}
use Rattle.std.specs.Prelude.{Option, Some, None, ◌&&◌, ◌||◌, not, is_none, is_some, nat_lt, nat_le, length, map, ◌+◌}
use Rattle.ubik_types.specs.declared.hosts.Host.{Host}
use Rattle.ubik_types.specs.declared.images.Change.{Change}
use Rattle.ubik_types.specs.declared.limits.TheConstants.{SMALLTIME}
use Rattle.ubik_types.specs.declared.versions.TheConstants.{MAX_COUNTER}
use Rattle.ubik_types.specs.declared.versions.Version.{Version}
use Rattle.ubik_types.specs.Logged.{too_large}
use Rattle.ubik_types.specs.Phase.{Polled, Spread, PhaseRecord, NoPhase, Poll, Fetch, Relabel, Send, Ready}
use Rattle.ubik_types.specs.Quorum.{is_majority}
use Rattle.ubik_types.specs.Version.{version_eq, version_lt}
use Rattle.ubik_types.specs.Votes.{beacon_is_due}
use Rattle.ubik_calls.specs.declared.packets.TheConstants.{MAX_PIECES}
use Rattle.ubik_calls.specs.declared.packets.Body.{Body}
use Rattle.ubik_calls.specs.declared.packets.Body.TheVariants as body
use Rattle.ubik_calls.specs.declared.packets.Packet.{Packet}
use Rattle.db_image.specs.declared.services.CallReply.{CallReply}
use Rattle.db_image.specs.declared.services.CallReply.TheVariants as call_reply
use Rattle.db_image.specs.Database.{changes_of}
use Rattle.db_image.specs.Standing.{Standing}
use Rattle.cell_model.specs.declared.events.NodeEvent.TheVariants as event
use Rattle.cell_model.specs.Asks.{allows_reads, asked_as, asked_elsewhere, put_into_line, read, served, write_asked}
use Rattle.cell_model.specs.Durable.{Made}
use Rattle.cell_model.specs.Evaluating.{KeepsStates, always}
use Rattle.cell_model.specs.Lapse.{lapsed, write_lapsed}
use Rattle.cell_model.specs.Node.{Flight, ReceivedText, Server, Waiting}
use Rattle.cell_model.specs.NodeRule.{place_of, received_from, received_packet, step_by}
use Rattle.cell_model.specs.Polls.{best_answer, new_poll, polling, with_answer}
use Rattle.cell_model.specs.Receiver.{begin_received, commit_received, get_piece_received, is_sending, send_piece_received, set_version_received, text_went_on, whole_write, write_taken}
use Rattle.cell_model.specs.Recovery.{bytes_received, fetch_installed, fetch_refused, fetch_went_on, held_by, holder_added, is_whole, lacking_sent, next_sent, piece_kept_received, piece_received, polled, recovered, relabelled, relabelled_to, first_of_epoch, text_with, told_to_spread, version_is_received, version_kept_received}
use Rattle.cell_model.specs.Step.{Basis, Member, Stepped, cell_size, is_fetch, is_ready, is_short, leased, short_after, with_phase}
use Rattle.cell_model.specs.Writes.{flight_settled, image_before, is_free, next_turns, own_write_begun, settled, settled_in, settled_with_turns, turned, write_turn, written_in, written_small, written_within}
use Rattle.state_laws.specs.States.{BringStates, HasState, HasStates, StepsKeepStates, TakesOnly}

-- what is so of calls is so of the first of them, and of the last
bring_front : (d : Standing) (front back : List Made) → BringStates d (front ++ back) → BringStates d front
bring_front d [] back all = tt
bring_front d (one ∷ front) back all = (all.0, bring_front d front back all.1)

bring_behind : (d : Standing) (front back : List Made) → BringStates d (front ++ back) → BringStates d back
bring_behind d [] back all = all
bring_behind d (one ∷ front) back all = bring_behind d front back all.1

module _ (d : Standing) where
  -- the step leaves images that stand
  abbrev Keeps : Stepped → Type 0
  Keeps t = HasStates d t.server

  -- so it does where what it takes over stands
  abbrev KeepsIf : Stepped → Type 0
  KeepsIf t = BringStates d t.calls → HasStates d t.server

  -- where another image comes, the one before the write in flight stays
  with_image : (image before : List ℕ) (f : Option Flight) → HasState d image → HasState d (image_before before f) → HasState d (image_before image f)
  with_image image before None new old = new
  with_image image before (Some f) new old = old

  -- ---- writes

  settled_keeps : (m : Member) (s : Server) (phase : PhaseRecord) → HasStates d s → Keeps (settled_in m s phase)
  settled_keeps m s NoPhase has = has
  settled_keeps m s (Poll poll) has = has
  settled_keeps m s (Fetch poll best host) has = has
  settled_keeps m s (Relabel poll) has = has
  settled_keeps m s (Send poll spread) has = cond_both (is_majority (cell_size m) spread.holders) _ _ Keeps (λ _. has) (λ _. has)
  settled_keeps m s (Ready poll spread announced) has = by s.flight
    where
      by : (f : Option Flight) → Keeps (flight_settled m s poll spread announced f)
      by None = has
      by (Some f) = cond_both (is_majority (cell_size m) spread.holders) _ _ Keeps (λ _. (has.0, has.0)) (λ _. has)

  module _ (keeps : KeepsStates d) (m : Member) (now : ℕ) where
    in_keeps : (s : Server) (id : ℕ) (call answer image : List ℕ) (changes : List Change) (phase : PhaseRecord) → HasStates d s → HasState d image
        → Keeps (written_in m s now id call answer image changes phase)
    in_keeps s id call answer image changes NoPhase has after = has
    in_keeps s id call answer image changes (Poll poll) has after = has
    in_keeps s id call answer image changes (Fetch poll best host) has after = has
    in_keeps s id call answer image changes (Relabel poll) has after = has
    in_keeps s id call answer image changes (Send poll spread) has after = has
    in_keeps s id call answer image changes (Ready poll spread announced) has after =
        let begun = own_write_begun m s now id call answer image changes poll spread in
        settled_keeps m begun.server begun.server.phase (after, has.0)

    small_keeps : (s : Server) (id : ℕ) (call answer image : List ℕ) (changes : List Change) → HasStates d s → HasState d image
        → Keeps (written_small m s now id call answer image changes)
    small_keeps s id call answer image [] has after = has
    small_keeps s id call answer image (change ∷ changes) has after =
        cond_both (s.version.counter == MAX_COUNTER) _ _ Keeps (λ _. has)
        (λ _. in_keeps s id call answer image (change ∷ changes) s.phase has after)

    within_keeps : (s : Server) (id : ℕ) (call answer image : List ℕ) (changes : List Change) (passed : Option ℕ) → HasStates d s → HasState d image
        → Keeps (written_within m s now id call answer image changes passed)
    within_keeps s id call answer image changes (Some bytes) has after = has
    within_keeps s id call answer image changes None has after = small_keeps s id call answer image changes has after

    turned_keeps : (s : Server) (id : ℕ) (call image : List ℕ) (r : CallReply) → HasStates d s → HasState d image
        → Keeps (turned d.database m s now id call image r)
    turned_keeps s id call image (call_reply.Done answer) has after =
        let changes = changes_of d.database s.image image in
        within_keeps s id call answer image changes (too_large 0 (length s.image) changes) has after
    turned_keeps s id call image (call_reply.Rule number) has after = has
    turned_keeps s id call image call_reply.Malformed has after = has
    turned_keeps s id call image (call_reply.BadRecord at) has after = has

    turn_keeps : (s : Server) (id : ℕ) (call : List ℕ) (short : Bool) → HasStates d s → Keeps (write_turn d.database m s now id call short)
    turn_keeps s id call true has = has
    turn_keeps s id call false has =
        let o = d.database.call s.image now call in
        turned_keeps s id call o.image o.reply has (keeps s.image has.0.0 now call has.0.1)

    turns_keep : (waiting : List Waiting) (s : Server) (short : List Bool) → HasStates d s
        → Keeps (next_turns (always d.database) m now waiting s short)
    turns_keep [] s short has = has
    turns_keep (w ∷ waiting) s short has =
        let before = record s { waiting = waiting } in
        let t = write_turn d.database m before now w.id w.call (is_short short) in
        cond_both (is_free s) _ _ Keeps
        (λ _. turns_keep waiting t.server (short_after t.shown short) (turn_keeps before w.id w.call (is_short short) has)) (λ _. has)

    settles_keep : (s : Server) (short : List Bool) → HasStates d s → Keeps (settled_with_turns (always d.database) m s now short)
    settles_keep s short has =
        let t = settled m s in
        turns_keep t.server.waiting t.server (short_after t.shown short) (settled_keeps m s s.phase has)

    -- ---- calls

    read_keeps : (s : Server) (id : ℕ) (call image : List ℕ) (basis : Basis) (short : Bool) → HasStates d s
        → Keeps (read d.database s now id call image basis short)
    read_keeps s id call image basis true has = has
    read_keeps s id call image basis false has = has

    line_keeps : (s : Server) (id : ℕ) (call : List ℕ) (short : Bool) (f : Flight) → HasStates d s → Keeps (put_into_line s id call short f)
    line_keeps s id call true f has = cond_both (nat_le 64 (length s.waiting)) _ _ Keeps (λ _. has) (λ _. has)
    line_keeps s id call false f has = cond_both (nat_le 64 (length s.waiting)) _ _ Keeps (λ _. has) (λ _. has)

    write_keeps : (s : Server) (id : ℕ) (call : List ℕ) (short : Bool) (f : Option Flight) → HasStates d s
        → Keeps (write_asked d.database m s now id call short f)
    write_keeps s id call short None has = turn_keeps s id call short has
    write_keeps s id call short (Some f) has = line_keeps s id call short f has

    served_keeps : (s : Server) (id : ℕ) (call : List ℕ) (writes short : Bool) → HasStates d s
        → Keeps (served d.database m s now id call writes short)
    served_keeps s id call true short has = write_keeps s id call short s.flight has
    served_keeps s id call false short has = read_keeps s id call _ _ short has

    elsewhere_keeps : (s : Server) (id : ℕ) (call : List ℕ) (writes short may_read : Bool) → HasStates d s
        → Keeps (asked_elsewhere d.database m s now id call writes short may_read)
    elsewhere_keeps s id call true short may_read has = has
    elsewhere_keeps s id call false short true has = read_keeps s id call _ _ short has
    elsewhere_keeps s id call false short false has = has

    as_keeps : (s : Server) (id : ℕ) (call : List ℕ) (short : Bool) (o : Option Bool) → HasStates d s
        → Keeps (asked_as d.database m s now id call short o)
    as_keeps s id call short None has = has
    as_keeps s id call short (Some writes) has =
        cond_both (leased m s now) _ _ Keeps
        (λ _. cond_both (is_ready s.phase) _ _ Keeps (λ _. served_keeps s id call writes short has) (λ _. has))
        (λ _. elsewhere_keeps s id call writes short (allows_reads s.version now s.beacon) has)

    -- ---- recovery

    relabelled_keeps : (s : Server) (poll : Polled) → HasStates d s → Keeps (relabelled m s poll now)
    relabelled_keeps s poll has =
        let t = relabelled_to m s poll (first_of_epoch now) in
        cond_both (nat_lt s.version.epoch now) _ _ Keeps (λ _. settled_keeps m t.server t.server.phase has) (λ _. has)

    polled_keeps : (s : Server) (poll : Polled) → HasStates d s → Keeps (polled m s poll now)
    polled_keeps s poll has =
        cond_both (is_majority (cell_size m) (map is_some poll.answers)) _ _ Keeps
        (λ _. cond_both (version_lt s.version (best_answer poll)) _ _ Keeps (λ _. has) (λ _. relabelled_keeps s poll has)) (λ _. has)

    recovered_keeps : (s : Server) (phase : PhaseRecord) → HasStates d s → Keeps (recovered m s now phase)
    recovered_keeps s NoPhase has = cond_both (leased m s now) _ _ Keeps (λ _. polled_keeps (polling m s now) (new_poll m s now) has) (λ _. has)
    recovered_keeps s (Poll poll) has = polled_keeps s poll has
    recovered_keeps s (Fetch poll best host) has =
        cond_both (nat_lt (poll.number + SMALLTIME) now) _ _ Keeps (λ _. polled_keeps (polling m s now) (new_poll m s now) has) (λ _. has)
    recovered_keeps s (Relabel poll) has = relabelled_keeps s poll has
    recovered_keeps s (Send poll spread) has = settled_keeps m s s.phase has
    recovered_keeps s (Ready poll spread announced) has = has

    holder_keeps : (s : Server) (k : ℕ) (short : List Bool) → HasStates d s → Keeps (holder_added (always d.database) m s now k short)
    holder_keeps s k short has = settles_keep (with_phase s (held_by s.phase k)) short has

    lacking_keeps : (s : Server) (host : Host) (poll : Polled) (spread : Spread) (version : Version) (f : Option Flight) → HasStates d s
        → Keeps (lacking_sent m s host poll spread version f)
    lacking_keeps s host poll spread version None has = has
    lacking_keeps s host poll spread version (Some f) has = has

    told_keeps : (s : Server) (host : Host) (k : ℕ) (poll : Polled) (spread : Spread) (number : ℕ) (version : Version) (short : List Bool) → HasStates d s
        → Keeps (told_to_spread (always d.database) m s now host k poll spread number version short)
    told_keeps s host k poll spread number version short has =
        cond_both (number == poll.number) _ _ Keeps
        (λ _. cond_both (version_eq version s.version) _ _ Keeps (λ _. holder_keeps s k short has)
        (λ _. lacking_keeps s host poll spread version s.flight has)) (λ _. has)

    refused_keeps : (s : Server) (from : ℕ) (best : Version) (k : ℕ) (version : Version) → HasStates d s → Keeps (fetch_refused m s now from best k version)
    refused_keeps s from best k version has = cond_both (from == k && not (version_eq version best)) _ _ Keeps (λ _. has) (λ _. has)

    version_keeps : (s : Server) (host : Host) (k number : ℕ) (version : Version) (short : List Bool) (phase : PhaseRecord) → HasStates d s
        → Keeps (version_is_received (always d.database) m s now host k number version short phase)
    version_keeps s host k number version short NoPhase has = has
    version_keeps s host k number version short (Poll poll) has =
        cond_both (number == poll.number) _ _ Keeps (λ _. polled_keeps s (with_answer poll k version) has) (λ _. has)
    version_keeps s host k number version short (Fetch poll best from) has = refused_keeps s from best k version has
    version_keeps s host k number version short (Relabel poll) has = has
    version_keeps s host k number version short (Send poll spread) has = told_keeps s host k poll spread number version short has
    version_keeps s host k number version short (Ready poll spread announced) has = told_keeps s host k poll spread number version short has

    kept_keeps : (s : Server) (k : ℕ) (version : Version) (short : List Bool) (phase : PhaseRecord) → HasStates d s
        → Keeps (version_kept_received (always d.database) m s now k version short phase)
    kept_keeps s k version short NoPhase has = has
    kept_keeps s k version short (Poll poll) has = has
    kept_keeps s k version short (Fetch poll best from) has = has
    kept_keeps s k version short (Relabel poll) has = has
    kept_keeps s k version short (Send poll spread) has =
        cond_both (version_eq version s.version) _ _ Keeps (λ _. holder_keeps s k short has) (λ _. has)
    kept_keeps s k version short (Ready poll spread announced) has =
        cond_both (version_eq version s.version) _ _ Keeps (λ _. holder_keeps s k short has) (λ _. has)

    sent_keeps : (s : Server) (host : Host) (poll : Polled) (version : Version) (next : ℕ) (f : Option Flight) → HasStates d s
        → Keeps (next_sent m s host poll version next f)
    sent_keeps s host poll version next None has =
        cond_both (version_eq version s.version && nat_lt next (length s.image)) _ _ Keeps (λ _. has) (λ _. has)
    sent_keeps s host poll version next (Some f) has = has

    piece_kept_keeps : (s : Server) (host : Host) (version : Version) (next : ℕ) (phase : PhaseRecord) → HasStates d s
        → Keeps (piece_kept_received m s host version next phase)
    piece_kept_keeps s host version next NoPhase has = has
    piece_kept_keeps s host version next (Poll poll) has = has
    piece_kept_keeps s host version next (Fetch poll best from) has = has
    piece_kept_keeps s host version next (Relabel poll) has = has
    piece_kept_keeps s host version next (Send poll spread) has = sent_keeps s host poll version next s.flight has
    piece_kept_keeps s host version next (Ready poll spread announced) has = sent_keeps s host poll version next s.flight has

    -- ---- the receiver, where it takes over no image and no changes

    set_keeps : (s : Server) (host : Host) (poll : ℕ) (old new : Version) → HasStates d s → Keeps (set_version_received m s host poll old new)
    set_keeps s host poll old new has =
        cond_both (is_sending s.phase) _ _ Keeps (λ _. has)
        (λ _. cond_both (version_eq s.version new) _ _ Keeps (λ _. has)
        (λ _. cond_both (version_eq s.version old && version_lt old new) _ _ Keeps (λ _. has) (λ _. has)))

    begin_keeps : (s : Server) (old new : Version) (pieces len : ℕ) → HasStates d s → Keeps (begin_received s old new pieces len)
    begin_keeps s old new pieces len has =
        cond_both (is_sending s.phase) _ _ Keeps (λ _. has)
        (λ _. cond_both (version_eq s.version old && version_lt old new && nat_le pieces MAX_PIECES) _ _ Keeps (λ _. has) (λ _. has))

    get_keeps : (s : Server) (host : Host) (poll : ℕ) (version : Version) (at : ℕ) → HasStates d s → Keeps (get_piece_received m s host poll version at)
    get_keeps s host poll version at has =
        cond_both (version_eq s.version version && (at == 0 || nat_lt at (length s.image))) _ _ Keeps (λ _. has) (λ _. has)

    -- ---- an image or changes that are taken over

    text_keeps : (s : Server) (host : Host) (poll : ℕ) (text : Option ReceivedText) → HasStates d s → KeepsIf (text_went_on m s host poll text)
    text_keeps s host poll None has = λ _. has
    text_keeps s host poll (Some text) has =
        cond_both (is_whole text) _ _ KeepsIf (λ _ brings. (brings.0, with_image text.bytes s.image s.flight brings.0 has.1)) (λ _ _. has)

    send_piece_keeps : (s : Server) (host : Host) (k poll : ℕ) (version : Version) (total at : ℕ) (bytes : List ℕ) → HasStates d s
        → KeepsIf (send_piece_received m s host k poll version total at bytes)
    send_piece_keeps s host k poll version total at bytes has =
        cond_both (is_sending s.phase || is_fetch s.phase) _ _ KeepsIf (λ _ _. has)
        (λ _. cond_both (version_eq s.version version) _ _ KeepsIf (λ _ _. has)
        (λ _. cond_both (version_lt version s.version) _ _ KeepsIf (λ _ _. has)
        (λ _. text_keeps s host poll (text_with true k version total at bytes s.received) has)))

    taken_keeps : (s : Server) (host : Host) (new : Version) (changes : Option (List Change)) → HasStates d s → KeepsIf (write_taken m s host new changes)
    taken_keeps s host new None has = λ _. has
    taken_keeps s host new (Some changes) has =
        cond_both (is_none (too_large 0 (length s.image) changes)) _ _ KeepsIf
        (λ _ brings. (brings.0, with_image _ s.image s.flight brings.0 has.1)) (λ _ _. has)

    commit_keeps : (s : Server) (host : Host) (old new : Version) → HasStates d s → KeepsIf (commit_received m s host old new)
    commit_keeps s host old new has =
        cond_both (is_sending s.phase) _ _ KeepsIf (λ _ _. has)
        (λ _. cond_both (version_eq s.version new) _ _ KeepsIf (λ _ _. has)
        (λ _. cond_both (version_eq s.version old) _ _ KeepsIf (λ _. taken_keeps s host new (whole_write new s.kept) has) (λ _ _. has)))

    installed_keeps : (s : Server) (poll : Polled) (best : Version) (image : List ℕ) → HasStates d s
        → BringStates d (fetch_installed s best image).calls → HasStates d (fetch_installed s best image).server
    installed_keeps s poll best image has =
        cond_both (version_lt s.version best) _ _ KeepsIf
        (λ _ brings. (brings.0, with_image image s.image s.flight brings.0 has.1)) (λ _ _. has)

    went_keeps : (s : Server) (poll : Polled) (best : Version) (from : ℕ) (text : Option ReceivedText) → HasStates d s
        → KeepsIf (fetch_went_on m s now poll best from text)
    went_keeps s poll best from None has = λ _. has
    went_keeps s poll best from (Some text) has =
        let t = fetch_installed s best text.bytes in
        cond_both (is_whole text) _ _ KeepsIf
        (λ _ brings. relabelled_keeps t.server poll (installed_keeps s poll best text.bytes has (bring_front d t.calls (relabelled m t.server poll now).calls brings))) (λ _ _. has)

    piece_keeps : (s : Server) (k number : ℕ) (version : Version) (total at : ℕ) (bytes : List ℕ) (phase : PhaseRecord) → HasStates d s
        → KeepsIf (piece_received m s now k number version total at bytes phase)
    piece_keeps s k number version total at bytes NoPhase has = λ _. has
    piece_keeps s k number version total at bytes (Poll poll) has = λ _. has
    piece_keeps s k number version total at bytes (Fetch poll best from) has =
        cond_both (k == from && number == poll.number && version_eq version best) _ _ KeepsIf
        (λ _. went_keeps s poll best from (text_with (bytes_received s.received == 0) k version total at bytes s.received) has) (λ _ _. has)
    piece_keeps s k number version total at bytes (Relabel poll) has = λ _. has
    piece_keeps s k number version total at bytes (Send poll spread) has = λ _. has
    piece_keeps s k number version total at bytes (Ready poll spread announced) has = λ _. has

    -- ---- each event after the lapse

    received_keeps : (s : Server) (host : Host) (k : ℕ) (b : Body) (short : List Bool) → HasStates d s
        → TakesOnly b (BringStates d (received_from (always d.database) m s now host k b short).calls)
        → Keeps (received_from (always d.database) m s now host k b short)
    received_keeps s host k (body.Beacon start claim ready version) short has brings = has
    received_keeps s host k (body.Vote start granted) short has brings = has
    received_keeps s host k (body.GetVersion poll) short has brings = has
    received_keeps s host k (body.VersionIs poll version) short has brings = version_keeps s host k poll version short s.phase has
    received_keeps s host k (body.GetPiece poll version offset) short has brings = get_keeps s host poll version offset has
    received_keeps s host k (body.Piece poll version total offset bytes) short has brings = piece_keeps s k poll version total offset bytes s.phase has brings
    received_keeps s host k (body.SendPiece poll version total offset bytes) short has brings =
        send_piece_keeps s host k poll version total offset bytes has brings
    received_keeps s host k (body.PieceKept poll version next) short has brings = piece_kept_keeps s host version next s.phase has
    received_keeps s host k (body.SetVersion poll old new) short has brings = set_keeps s host poll old new has
    received_keeps s host k (body.Begin old new pieces len) short has brings = begin_keeps s old new pieces len has
    received_keeps s host k (body.PutPiece new number bytes) short has brings = cond_both (is_sending s.phase) _ _ Keeps (λ _. has) (λ _. has)
    received_keeps s host k (body.Commit old new) short has brings = commit_keeps s host old new has brings
    received_keeps s host k (body.Abort new) short has brings = cond_both (is_sending s.phase) _ _ Keeps (λ _. has) (λ _. has)
    received_keeps s host k (body.VersionKept version) short has brings = kept_keeps s k version short s.phase has

    lapsed_keeps : (s : Server) → HasStates d s → Keeps (lapsed m s now)
    lapsed_keeps s has = cond_both (leased m s now) _ _ Keeps (λ _. by s.flight) (λ _. (has.0, has.0))
      where
        by : (f : Option Flight) → Keeps (write_lapsed m s now f)
        by None = has
        by (Some f) = cond_both (nat_lt (f.began + SMALLTIME) now) _ _ Keeps (λ _. (has.0, has.0)) (λ _. has)

    packet_keeps : (s : Server) (p : Packet) (short : List Bool) (place : Option ℕ) → HasStates d s
        → TakesOnly p.body (BringStates d (received_packet (always d.database) m s now p short place).calls)
        → Keeps (received_packet (always d.database) m s now p short place)
    packet_keeps s p short None has brings = has
    packet_keeps s p short (Some k) has brings = received_keeps s p.from k p.body short has brings

-- what is asked of each packet that may take something over is so of another claim that follows
only_map : (b : Body) (A B : Type 0) → (A → B) → TakesOnly b A → TakesOnly b B
only_map (body.Beacon start claim ready version) A B map so = so
only_map (body.Vote start granted) A B map so = so
only_map (body.GetVersion poll) A B map so = so
only_map (body.VersionIs poll version) A B map so = so
only_map (body.GetPiece poll version offset) A B map so = so
only_map (body.Piece poll version total offset bytes) A B map so = map so
only_map (body.SendPiece poll version total offset bytes) A B map so = map so
only_map (body.PieceKept poll version next) A B map so = so
only_map (body.SetVersion poll old new) A B map so = so
only_map (body.Begin old new pieces len) A B map so = so
only_map (body.PutPiece new number bytes) A B map so = so
only_map (body.Commit old new) A B map so = map so
only_map (body.Abort new) A B map so = so
only_map (body.VersionKept version) A B map so = so

pub steps_keep_states : (d : Standing) → KeepsStates d → StepsKeepStates d
unfolding step_by
steps_keep_states d keeps m s now (event.Packet p) short has takes =
    let t = lapsed m s now in
    let place = place_of m.hosts p.from in
    let behind = short_after t.shown short in
    packet_keeps d keeps m now t.server p behind place (lapsed_keeps d keeps m now s has)
    (only_map p.body _ _ (λ all. bring_behind d t.calls (received_packet (always d.database) m t.server now p behind place).calls (all short)) takes)
steps_keep_states d keeps m s now event.BeaconTurn short has takes =
    let after = (lapsed m s now).server in
    cond_both (beacon_is_due after.votes now m.me (leased m after now)) _ _ (Keeps d) (λ _. lapsed_keeps d keeps m now s has) (λ _. lapsed_keeps d keeps m now s has)
steps_keep_states d keeps m s now event.RecoverTurn short has takes =
    let after = (lapsed m s now).server in
    recovered_keeps d keeps m now after after.phase (lapsed_keeps d keeps m now s has)
steps_keep_states d keeps m s now (event.Ask id call) short has takes =
    let t = lapsed m s now in
    as_keeps d keeps m now t.server id call (is_short (short_after t.shown short)) (d.database.writes call) (lapsed_keeps d keeps m now s has)
