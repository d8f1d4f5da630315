-- What each move keeps, each step of a server keeps: the receiver, the lapse, votes, and every event.
use Rattle.std.proofs.Common.{Bool, true, false, cond, ◌==◌, ◌≡◌, ℕ, ◌+◌, List, [], ◌∷◌, ◌++◌, length, refl, sym}
use Rattle.std.proofs.Common.{subst}
use Rattle.std.proofs.lemmas.Bool.{cond_both}
use Rattle.std.specs.Prelude.{Option, Some, None, ◌&&◌, ◌||◌, not, nat_lt, nat_le, is_none}
use Rattle.ubik_types.specs.declared.hosts.Host.{Host}
use Rattle.ubik_types.specs.declared.images.Change.{Change}
use Rattle.ubik_types.specs.declared.limits.TheConstants.{SMALLTIME}
use Rattle.ubik_types.specs.declared.phases.Phase.TheVariants as phases
use Rattle.ubik_types.specs.declared.versions.Version.{Version}
use Rattle.ubik_types.specs.Image.{effect}
use Rattle.ubik_types.specs.Lease.{is_in_lease}
use Rattle.ubik_types.specs.Logged.{logged, too_large}
use Rattle.ubik_types.specs.Phase.{PhaseRecord, NoPhase, Poll, Fetch, Relabel, Send, Ready}
use Rattle.ubik_types.specs.Version.{version_lt, version_eq}
use Rattle.ubik_types.specs.Votes.{beacon_is_due, answers_yes}
use Rattle.ubik_calls.specs.declared.packets.TheConstants.{MAX_PIECES}
use Rattle.ubik_calls.specs.declared.packets.Body.{Body}
use Rattle.ubik_calls.specs.declared.packets.Body.TheVariants as body
use Rattle.ubik_calls.specs.declared.packets.Packet.{Packet}
use Rattle.db_image.specs.Database.{Database}
use Rattle.cell_model.specs.declared.events.NodeEvent.{NodeEvent}
use Rattle.cell_model.specs.declared.events.NodeEvent.TheVariants as event
use Rattle.cell_model.specs.Asks.{asked_as}
use Rattle.cell_model.specs.Book.{with_version}
use Rattle.cell_model.specs.Durable.{Made, Received, version_after}
use Rattle.cell_model.specs.Durable as durables
use Rattle.cell_model.specs.Evaluating.{always}
use Rattle.cell_model.specs.Lapse.{writes_refused, phase_dropped, write_given_up, write_lapsed, lapsed, without_writes}
use Rattle.cell_model.specs.Node.{Server, ReceivedText, Flight}
use Rattle.cell_model.specs.NodeRule.{received_from, received_packet, place_of, handled, step_of, step_by}
use Rattle.cell_model.specs.Polls.{new_poll, polling}
use Rattle.cell_model.specs.Receiver.{is_sending, answers_version_kept, answers_version_is, relabelled_by, set_version_received}
use Rattle.cell_model.specs.Receiver.{text_went_on, send_piece_received, empty_write, begin_received, kept_with, put_piece_received}
use Rattle.cell_model.specs.Receiver.{committed_by, write_taken, whole_write, commit_received, kept_but, abort_received, get_piece_received}
use Rattle.cell_model.specs.Recovery.{recovered, version_is_received}
use Rattle.cell_model.specs.Recovery.{version_kept_received, piece_kept_received, text_with, is_whole, installed}
use Rattle.cell_model.specs.Recovery.{piece_received}
use Rattle.cell_model.specs.Step.{Member, cell_size, Shown, Stepped}
use Rattle.cell_model.specs.Step.{quiet, showing, followed}
use Rattle.cell_model.specs.Step.{leased, is_ready, told_version, is_fetch, with_phase, with_database, is_short, short_after, sends_to}
use Rattle.cell_model.specs.Voting.{is_beacon_of, beacon_kept, beacon_turn, beacon_taken, beacon_received, vote_received}
use Rattle.cell_laws.proofs.Parts.{no, and_both, or_none}
use Rattle.cell_pages.specs.Images.{IsImageOf}
use Rattle.cell_pages.specs.Parts.{KeptLeadsOn}
use Rattle.cell_pages.proofs.Making.{piece_leads, but_leads, whole_leads}
use Rattle.cell_pages.proofs.Versions.{same_of_eq, not_below, text_is_of}
use Rattle.cell_orders.specs.Histories.{Stand, stand_of, History, with_book, after, IsServing, AllFit, Brings}
use Rattle.cell_orders.specs.Acknowledged.{IsAnnounced, IsLevel, FlightMade, AllOks}
use Rattle.cell_orders.specs.OrderMoves.{OrderMoves}
use Rattle.cell_orders.specs.Served.{Names, IsNamed, EndsIn, Beyond, IsBeyond, AllServed}
use Rattle.cell_orders.specs.Asked.{CallsKnown}
use Rattle.cell_orders.proofs.Calling.{fits_called, called_append, none_called}
use Rattle.cell_orders.proofs.Serving.{EventNames, names_on, named_with, fits_served}
use Rattle.cell_orders.proofs.Telling.{fits_oks, Rising, rising_append, after_both}
use Rattle.cell_orders.proofs.Telling.{fit_append, each_fits, refused_fit}
use Rattle.cell_orders.proofs.Standing.{level_idle, not_ready, none_made}
use Rattle.cell_orders.proofs.Walk as walk
use Rattle.cell_orders.proofs.WalkRecovery as recovery

module _ (db : Database) (m : Member) (now : ℕ) (starts : List (Option ℕ)) (Called : ℕ → List ℕ → Type 0) (Asked : ℕ → ℕ → Type 0)
    (Answered : ℕ → ℕ → Version → Type 0) (Kept : ℕ → Version → Type 0) (I : History → Stand → Type 0)
    (moves : OrderMoves m now (is_in_lease (cell_size m) starts now) Asked Answered Kept I) where
  abbrev in_lease : Bool
  in_lease = is_in_lease (cell_size m) starts now

  abbrev Lease : Type 0
  Lease = is_in_lease (cell_size m) starts now ≡ true

  abbrev Fit : History → Server → Type 0
  Fit h s = walk.Fit db m now starts Called Asked Answered Kept I moves h s

  abbrev Goes : History → Version → Stepped → Type 0
  Goes h v t = walk.Goes db m now starts Called Asked Answered Kept I moves h v t

  abbrev Fits : Server → List Shown → Type 0
  Fits s shown = AllFit m Asked (stand_of s) shown

  abbrev Pure : History → Server → Type 0
  Pure h s = walk.Pure db m now starts Called Asked Answered Kept I moves h s

  -- a whole step
  abbrev pub Ends : History → Version → Stepped → Type 0
  Ends h v t = walk.Ends db m now starts Called Asked Answered Kept I moves h v t

  either : (h : History) (v : Version) (test : Bool) (x y : Stepped) → (test ≡ true → Goes h v x) → (test ≡ false → Goes h v y) →
      Goes h v (cond test x y)
  either = walk.either db m now starts Called Asked Answered Kept I moves

  turns : (h : History) (u : Server) (shown : List Shown) → Fit h u → Fits u shown → Goes h u.version (showing u shown)
  turns = walk.turns db m now starts Called Asked Answered Kept I moves

  rests : (h : History) (s : Server) → Fit h s → Goes h s.version (quiet s)
  rests = walk.rests db m now starts Called Asked Answered Kept I moves

  makes : (h : History) (s u : Server) (made : Made) (shown : List Shown) → version_lt s.version (version_after made.call) ≡ true →
      version_after made.call ≡ u.version →
      Fit (with_book h (with_version h.book m.me s.version (version_after made.call) made.reason)) u → Fits u shown →
      Goes h s.version (record { server = u; calls = made ∷ []; shown = shown })
  makes = walk.makes db m now starts Called Asked Answered Kept I moves

  both_oks : (h : History) (v : Version) (t : Stepped) (middle : Version) (u : Stepped) →
      AllOks (after h m.me v t).book (after h m.me v t).announced t.shown →
      AllOks (after (after h m.me v t) m.me middle u).book (after (after h m.me v t) m.me middle u).announced u.shown →
      AllOks (after (after h m.me v t) m.me middle u).book (after (after h m.me v t) m.me middle u).announced (t.shown ++ u.shown)
  both_oks = walk.both_oks db m now starts Called Asked Answered Kept I moves

  follows : (h : History) (v : Version) (t : Stepped) (next : Server → Stepped) → Goes h v t →
      (Fit (after h m.me v t) t.server → Goes (after h m.me v t) t.server.version (next t.server)) → Goes h v (followed t next)
  follows = walk.follows db m now starts Called Asked Answered Kept I moves

  both_served : (h : History) (v : Version) (t u : Stepped) → Rising t.server.version u.calls u.server.version →
      ((x : Beyond) (since : List Version) → IsBeyond x (after h m.me v t).book t.server.version → EndsIn since h.announced →
      AllServed db x since h.announced t.shown) →
      (x : Beyond) (since : List Version) → IsBeyond x (after (after h m.me v t) m.me t.server.version u).book u.server.version →
      EndsIn since h.announced →
      ((since : List Version) → EndsIn since (after h m.me v t).announced → AllServed db x since (after h m.me v t).announced u.shown) →
      AllServed db x since h.announced (t.shown ++ u.shown)
  both_served = walk.both_served db m now starts Called Asked Answered Kept I moves

  serving : (h : History) (u : Server) → Fit h u → (v : Version) → IsServing u.phase v → IsAnnounced h.announced v
  serving = walk.serving db m now starts Called Asked Answered Kept I moves

  ended : (h : History) (v : Version) (t : Stepped) → Goes h v t → Ends h v t
  ended = walk.ended db m now starts Called Asked Answered Kept I moves

  no_flight : (h : History) (s : Server) → is_ready s.phase ≡ false → Fit h s → s.flight ≡ None
  no_flight = walk.no_flight db m now starts Called Asked Answered Kept I moves

  begins : (h : History) (s : Server) → Lease → s.flight ≡ None → Fit h s → Fit h (polling m s now)
  begins = walk.begins db m now starts Called Asked Answered Kept I moves

  asked_as_is : (h : History) (s : Server) (id : ℕ) (call : List ℕ) (short : Bool) (o : Option Bool) → db.writes call ≡ o → Called id call → Fit h s →
      Pure h s → Ends h s.version (asked_as db m s now id call short o)
  asked_as_is = walk.asked_as_is db m now starts Called Asked Answered Kept I moves

  recovered_is : (h : History) (s : Server) (phase : PhaseRecord) → s.phase ≡ phase → Fit h s → Goes h s.version (recovered m s now phase)
  recovered_is = recovery.recovered_is db m now starts Called Asked Answered Kept I moves

  piece_kept_is : (h : History) (s : Server) (host : Host) (version : Version) (next : ℕ) (phase : PhaseRecord) → s.phase ≡ phase →
      Fit h s → Goes h s.version (piece_kept_received m s host version next phase)
  piece_kept_is = recovery.piece_kept_is db m now starts Called Asked Answered Kept I moves

  installed_is : (h : History) (s : Server) (version : Version) (bytes : List ℕ) → is_sending s.phase ≡ false →
      version_lt s.version version ≡ true → Fit h s → Goes h s.version (installed s version bytes)
  installed_is = recovery.installed_is db m now starts Called Asked Answered Kept I moves

  piece_received_is : (h : History) (s : Server) (k number : ℕ) (version : Version) (total at : ℕ) (bytes : List ℕ) (phase : PhaseRecord) →
      s.phase ≡ phase → Fit h s → Goes h s.version (piece_received m s now k number version total at bytes phase)
  piece_received_is = recovery.piece_received_is db m now starts Called Asked Answered Kept I moves

  version_told_is : (h : History) (s : Server) (host : Host) (k number : ℕ) (version : Version) (short : List Bool)
      (phase : PhaseRecord) →
      Answered k number version × Kept k version → s.phase ≡ phase → Fit h s → Pure h s →
      Goes h s.version (version_is_received (always db) m s now host k number version short phase)
  version_told_is = recovery.version_told_is db m now starts Called Asked Answered Kept I moves

  version_kept_is : (h : History) (s : Server) (k : ℕ) (version : Version) (short : List Bool) (phase : PhaseRecord) → Kept k version →
      Fit h s → Pure h s → Goes h s.version (version_kept_received (always db) m s now k version short phase)
  version_kept_is = recovery.version_kept_is db m now starts Called Asked Answered Kept I moves

  -- ---- the receiver

  abbrev AskedBy : Host → ℕ → Type 0
  AskedBy host number = (j : ℕ) → place_of m.hosts host ≡ Some j → Asked j number

  tells_is : (h : History) (s : Server) (host : Host) (poll : ℕ) → AskedBy host poll → Fit h s →
      Goes h s.version (answers_version_is m host poll s)
  tells_is h s host poll asked fit = turns h s _ fit ((refl, (refl, asked)), tt)

  keeps_is : (h : History) (s : Server) (host : Host) → Fit h s → Goes h s.version (answers_version_kept m host s)
  keeps_is h s host fit = turns h s _ fit ((refl, refl), tt)

  version_set_is : (h : History) (s : Server) (host : Host) (poll : ℕ) (old new : Version) → AskedBy host poll → Fit h s →
      Goes h s.version (set_version_received m s host poll old new)
  version_set_is h s host poll old new asked fit =
      either h s.version (is_sending s.phase) _ _ (λ _. rests h s fit)
      (λ idle. either h s.version (version_eq s.version new) _ _ (λ _. keeps_is h s host fit)
      (λ _. either h s.version (version_eq s.version old && version_lt old new) _ _
      (λ is. follows h s.version (relabelled_by s new) (answers_version_kept m host)
      (set_here idle (and_both (version_eq s.version old) _ is)) (λ fit. keeps_is _ (relabelled_by s new).server host fit))
      (λ _. tells_is h s host poll asked fit)))
    where
      set_here : is_sending s.phase ≡ false → (version_eq s.version old ≡ true) × (version_lt old new ≡ true) →
          Goes h s.version (relabelled_by s new)
      set_here idle is =
          let less : version_lt s.version new ≡ true =
          subst (λ (v : Version). version_lt v new ≡ true) (sym (same_of_eq s.version old is.0)) is.1 in
          makes h s (with_database s new s.image) (record { call = durables.Relabel new; reason = Received }) [] less refl
          (record {
            keeps = moves.version.rises h (stand_of s) new idle less fit.keeps;
            same = fit.same;
            held = fit.held;
            leads = tt;
            flight = none_made db h.book new s.phase s.flight (no_flight h s (not_ready s.phase idle) fit);
            level = level_idle new s.phase s.flight (not_ready s.phase idle);
            beacon = fit.beacon;
            calls = fit.calls;
          }) tt

  text_is : (h : History) (s : Server) (host : Host) (k poll : ℕ) (version : Version) (total at : ℕ) (bytes : List ℕ)
      (text : Option ReceivedText) → text_with true k version total at bytes s.received ≡ text → is_sending s.phase ≡ false →
      version_lt s.version version ≡ true → Fit h s → Goes h s.version (text_went_on m s host poll text)
  text_is h s host k poll version total at bytes None is idle less fit = rests h s fit
  text_is h s host k poll version total at bytes (Some text) is idle less fit =
      either h s.version (is_whole text) _ _
      (λ _. follows h s.version (installed s text.version text.bytes) (answers_version_kept m host)
      (installed_is h s text.version text.bytes idle
      (subst (λ (v : Version). version_lt s.version v ≡ true) (sym (text_is_of true k version total at bytes s.received text is)) less) fit)
      (λ fit. keeps_is _ (with_database s text.version text.bytes) host fit))
      (λ _. turns h (record s { received = Some text }) _
      (record {
        keeps = fit.keeps;
        same = fit.same;
        held = fit.held;
        leads = fit.leads;
        flight = fit.flight;
        level = fit.level;
        beacon = fit.beacon;
        calls = fit.calls;
      }) ((refl, tt), tt))

  piece_taken_is : (h : History) (s : Server) (host : Host) (k poll : ℕ) (version : Version) (total at : ℕ) (bytes : List ℕ) →
      AskedBy host poll → Fit h s → Goes h s.version (send_piece_received m s host k poll version total at bytes)
  piece_taken_is h s host k poll version total at bytes asked fit =
      either h s.version (is_sending s.phase || is_fetch s.phase) _ _ (λ _. rests h s fit)
      (λ idle. either h s.version (version_eq s.version version) _ _ (λ _. keeps_is h s host fit)
      (λ differs. either h s.version (version_lt version s.version) _ _ (λ _. tells_is h s host poll asked fit)
      (λ not_less. text_is h s host k poll version total at bytes (text_with true k version total at bytes s.received) refl
      (or_none (is_sending s.phase) _ idle).0 (not_below s.version version differs not_less) fit)))

  write_kept_is : (h : History) (s : Server) (old new : Version) (pieces len : ℕ) → Fit h s →
      Goes h s.version (begin_received s old new pieces len)
  write_kept_is h s old new pieces len fit =
      either h s.version (is_sending s.phase) _ _ (λ _. rests h s fit)
      (λ _. either h s.version (version_eq s.version old && version_lt old new && nat_le pieces MAX_PIECES) _ _
      (λ is. turns h (record s { kept = Some (empty_write old new pieces len) }) []
      (let w = and_both (version_eq s.version old && version_lt old new) (nat_le pieces MAX_PIECES) is in
      let both = and_both (version_eq s.version old) (version_lt old new) w.0 in
      record {
        keeps = fit.keeps;
        same = fit.same;
        held = fit.held;
        leads = subst (λ (v : Version). version_lt v new ≡ true) (sym (same_of_eq s.version old both.0)) both.1;
        flight = fit.flight;
        level = fit.level;
        beacon = fit.beacon;
        calls = fit.calls;
      }) tt)
      (λ _. rests h s fit))

  write_piece_is : (h : History) (s : Server) (new : Version) (number : ℕ) (bytes : List ℕ) → Fit h s →
      Goes h s.version (put_piece_received s new number bytes)
  write_piece_is h s new number bytes fit =
      either h s.version (is_sending s.phase) _ _ (λ _. rests h s fit)
      (λ _. turns h (record s { kept = kept_with new number bytes s.kept }) []
      (record {
        keeps = fit.keeps;
        same = fit.same;
        held = fit.held;
        leads = piece_leads s.version new number bytes s.kept fit.leads;
        flight = fit.flight;
        level = fit.level;
        beacon = fit.beacon;
        calls = fit.calls;
      }) tt)

  taken_is : (h : History) (s : Server) (host : Host) (old new : Version) (changes : Option (List Change)) → is_sending s.phase ≡ false →
      whole_write new s.kept ≡ changes → Fit h s → Goes h s.version (write_taken m s host new changes)
  taken_is h s host old new None idle whole fit = rests h s fit
  taken_is h s host old new (Some changes) idle whole fit =
      either h s.version (is_none (too_large 0 (length s.image) changes)) _ _
      (λ _. follows h s.version (committed_by s new changes) (answers_version_kept m host) made
      (λ fit. keeps_is _ (committed_by s new changes).server host fit))
      (λ _. rests h s fit)
    where
      less : version_lt s.version new ≡ true
      less = whole_leads s.version new s.kept changes whole fit.leads

      made : Goes h s.version (committed_by s new changes)
      made =
          makes h s (committed_by s new changes).server
          (record {
            call = durables.Commit new (logged (length s.image) changes) (effect s.image (logged (length s.image) changes));
            reason = Received;
          }) [] less refl
          (record {
            keeps = moves.version.rises h (stand_of s) new idle less fit.keeps;
            same = fit.same;
            held = fit.held;
            leads = tt;
            flight = none_made db h.book new s.phase s.flight (no_flight h s (not_ready s.phase idle) fit);
            level = level_idle new s.phase s.flight (not_ready s.phase idle);
            beacon = fit.beacon;
            calls = fit.calls;
          }) tt

  write_committed_is : (h : History) (s : Server) (host : Host) (old new : Version) → Fit h s →
      Goes h s.version (commit_received m s host old new)
  write_committed_is h s host old new fit =
      either h s.version (is_sending s.phase) _ _ (λ _. rests h s fit)
      (λ idle. either h s.version (version_eq s.version new) _ _ (λ _. keeps_is h s host fit)
      (λ _. either h s.version (version_eq s.version old) _ _
      (λ _. taken_is h s host old new (whole_write new s.kept) idle refl fit) (λ _. rests h s fit)))

  write_dropped_is : (h : History) (s : Server) (new : Version) → Fit h s → Goes h s.version (abort_received s new)
  write_dropped_is h s new fit =
      either h s.version (is_sending s.phase) _ _ (λ _. rests h s fit)
      (λ _. turns h (record s { kept = kept_but new s.kept }) []
      (record {
        keeps = fit.keeps;
        same = fit.same;
        held = fit.held;
        leads = but_leads s.version new s.kept fit.leads;
        flight = fit.flight;
        level = fit.level;
        beacon = fit.beacon;
        calls = fit.calls;
      }) tt)

  piece_asked_is : (h : History) (s : Server) (host : Host) (poll : ℕ) (version : Version) (at : ℕ) → AskedBy host poll → Fit h s →
      Goes h s.version (get_piece_received m s host poll version at)
  piece_asked_is h s host poll version at asked fit =
      either h s.version (version_eq s.version version && (at == 0 || nat_lt at (length s.image))) _ _
      (λ _. turns h s _ fit ((refl, tt), tt)) (λ _. tells_is h s host poll asked fit)

  -- ---- the lapse

  lapsed_is : (h : History) (s : Server) → s.starts ≡ starts → KeptLeadsOn s.version s.kept →
      FlightMade db h.book s.version s.phase s.flight → IsLevel s.version s.phase s.flight → IsNamed h.announced s.beacon →
      CallsKnown Called s.flight s.waiting → I h (stand_of s) → Goes h s.version (lapsed m s now)
  lapsed_is h s same leads flown level beacon calls keeps =
      cond_both (leased m s now) (write_lapsed m s now s.flight) (phase_dropped m s now) (Goes h s.version)
      (λ is. held_by_lease (subst (λ (c : List (Option ℕ)). is_in_lease (cell_size m) c now ≡ true) same is) s.flight)
      (λ is. dropped (subst (λ (c : List (Option ℕ)). is_in_lease (cell_size m) c now ≡ false) same is))
    where
      dropped : is_in_lease (cell_size m) starts now ≡ false → Goes h s.version (phase_dropped m s now)
      dropped over =
          turns h (with_phase (without_writes s) NoPhase) _
          (record {
            keeps = moves.poll.drops h (stand_of s) over keeps;
            same = same;
            held = λ is. no is;
            leads = leads;
            flight = none_made db h.book s.version NoPhase None refl;
            level = tt;
            beacon = beacon;
            calls = (none_called Called None refl, tt);
          })
          (refused_fit m Asked (stand_of (with_phase (without_writes s) NoPhase)) s now phases.None)

      as_before : Lease → Fit h s
      as_before lease =
          record { keeps = keeps; same = same; held = λ _. lease; leads = leads; flight = flown; level = level; beacon = beacon; calls = calls }

      held_by_lease : Lease → (f : Option Flight) → Goes h s.version (write_lapsed m s now f)
      held_by_lease lease None = rests h s (as_before lease)
      held_by_lease lease (Some f) =
          either h s.version (nat_lt (f.began + SMALLTIME) now) _ _
          (λ _. turns h (polling m (without_writes s) now) _
          (record {
            keeps = moves.poll.begins h (stand_of s) lease keeps;
            same = same;
            held = λ _. lease;
            leads = leads;
            flight = none_made db h.book s.version (Poll (new_poll m (without_writes s) now)) None refl;
            level = tt;
            beacon = beacon;
            calls = (none_called Called None refl, tt);
          })
          (fit_append m Asked (stand_of (polling m (without_writes s) now)) (writes_refused m s now phases.Poll) _
          (refused_fit m Asked (stand_of (polling m (without_writes s) now)) s now phases.Poll)
          (each_fits m Asked (stand_of (polling m (without_writes s) now)) _ (λ host k. (tt, tt)))))
          (λ _. rests h s (as_before lease))

  -- neither version nor image nor book is another one
  lapsed_pure : (h : History) (s : Server) → Pure h s → Pure (after h m.me s.version (lapsed m s now)) (lapsed m s now).server
  lapsed_pure h s pure = cond_both (leased m s now) (write_lapsed m s now s.flight) (phase_dropped m s now) P (λ _. by s.flight) (λ _. pure)
    where
      P : Stepped → Type 0
      P t = Pure (after h m.me s.version t) t.server

      by : (f : Option Flight) → P (write_lapsed m s now f)
      by None = pure
      by (Some f) = cond_both (nat_lt (f.began + SMALLTIME) now) (write_given_up m s now) (quiet s) P (λ _. pure) (λ _. pure)

  -- ---- votes

  beacon_turn_is : (h : History) (s : Server) → Fit h s → Ends h s.version (beacon_turn m s now)
  beacon_turn_is h s fit =
      cond_both (beacon_is_due s.votes now m.me (leased m s now)) (beacon_taken m s now (leased m s now)) (quiet s) (Ends h s.version)
      (λ due. record {
        keeps =
            moves.shows h (stand_of (beacon_taken m s now (leased m s now)).server) _ all
            (moves.vote.asks h (stand_of s) (leased m s now) due fit.keeps);
        held = fit.held;
        rising = refl;
        flight = fit.flight;
        level = fit.level;
        beacon = named_with (beacon_taken m s now (leased m s now)).shown h.announced s.beacon fit.beacon;
        calls = fit.calls;
        called = fits_called m Asked Called (stand_of (beacon_taken m s now (leased m s now)).server) _ all;
        oks = fits_oks m Asked (stand_of (beacon_taken m s now (leased m s now)).server) h.book _ _ all;
        served = λ x since _ _ _.
            fits_served db m Asked (stand_of (beacon_taken m s now (leased m s now)).server) x since h.announced _ (serving h s fit) all;
      })
      (λ _. ended h s.version (quiet s) (rests h s fit))
    where
      names : (claim : Bool) (phase : PhaseRecord) → (claim && is_ready phase) ≡ true →
          IsServing phase (cond (claim && is_ready phase) (told_version phase s.version) s.version)
      names false phase is = no is
      names true NoPhase is = no is
      names true (Poll poll) is = no is
      names true (Fetch poll best host) is = no is
      names true (Relabel poll) is = no is
      names true (Send poll spread) is = no is
      names true (Ready poll spread announced) is = refl

      all : Fits (beacon_taken m s now (leased m s now)).server (beacon_taken m s now (leased m s now)).shown
      all =
          each_fits m Asked (stand_of (beacon_taken m s now (leased m s now)).server) _
          (λ host k. (names (leased m s now) s.phase, tt))

  -- ---- every event

  received_is : (h : History) (s : Server) (host : Host) (k : ℕ) (c : Body) (short : List Bool) → place_of m.hosts host ≡ Some k →
      Brings Asked Answered Kept k c → Names h.announced c → Fit h s → Pure h s →
      Ends h s.version (received_from (always db) m s now host k c short)
  received_is h s host k c short place brings names fit pure = by c brings names
    where
      by_host : (number : ℕ) → Asked k number → AskedBy host number
      by_host number asked j is =
          let same : k ≡ j = cc in
          subst (λ (i : ℕ). Asked i number) same asked

      kept : (claim ready : Bool) (version : Version) → (ready ≡ true → IsAnnounced h.announced version) →
          IsNamed h.announced (beacon_kept s.beacon now k claim ready version)
      kept claim ready version told =
          cond_both (claim && ready) (Some (record { server = k; version = version; at = now }))
          (cond (not ready && is_beacon_of k s.beacon) None s.beacon) (IsNamed h.announced)
          (λ is. told (and_both claim ready is).1)
          (λ _. cond_both (not ready && is_beacon_of k s.beacon) None s.beacon (IsNamed h.announced) (λ _. tt) (λ _. fit.beacon))

      by : (c : Body) → Brings Asked Answered Kept k c → Names h.announced c →
          Ends h s.version (received_from (always db) m s now host k c short)
      by (body.Beacon start claim ready version) brings names = record {
        keeps =
            moves.shows h (stand_of (beacon_received m s now host k start claim ready version).server)
            (sends_to m host (body.Vote start (answers_yes s.votes now k claim))) ((refl, tt), tt)
            (moves.vote.hears h (stand_of s) k claim fit.keeps);
        held = fit.held;
        rising = refl;
        flight = fit.flight;
        level = fit.level;
        beacon = kept claim ready version names;
        calls = fit.calls;
        called = (tt, tt);
        oks = (tt, tt);
        served = λ x since _ _ _. (tt, tt);
      }
      by (body.Vote start granted) brings names = record {
        keeps =
            moves.shows h (stand_of (vote_received m s k start granted).server) [] tt
            (moves.vote.counts h (stand_of s) k start granted fit.keeps);
        held = fit.held;
        rising = refl;
        flight = fit.flight;
        level = fit.level;
        beacon = fit.beacon;
        calls = fit.calls;
        called = tt;
        oks = tt;
        served = λ x since _ _ _. tt;
      }
      by (body.GetVersion poll) brings names = ended h s.version _ (tells_is h s host poll (by_host poll brings) fit)
      by (body.VersionIs poll version) brings names =
          ended h s.version _ (version_told_is h s host k poll version short s.phase brings refl fit pure)
      by (body.GetPiece poll version offset) brings names =
          ended h s.version _ (piece_asked_is h s host poll version offset (by_host poll brings) fit)
      by (body.Piece poll version total offset bytes) brings names =
          ended h s.version _ (piece_received_is h s k poll version total offset bytes s.phase refl fit)
      by (body.SendPiece poll version total offset bytes) brings names =
          ended h s.version _ (piece_taken_is h s host k poll version total offset bytes (by_host poll brings) fit)
      by (body.PieceKept poll version next) brings names = ended h s.version _ (piece_kept_is h s host version next s.phase refl fit)
      by (body.SetVersion poll old new) brings names =
          ended h s.version _ (version_set_is h s host poll old new (by_host poll brings) fit)
      by (body.Begin old new pieces len) brings names = ended h s.version _ (write_kept_is h s old new pieces len fit)
      by (body.PutPiece new number bytes) brings names = ended h s.version _ (write_piece_is h s new number bytes fit)
      by (body.Commit old new) brings names = ended h s.version _ (write_committed_is h s host old new fit)
      by (body.Abort new) brings names = ended h s.version _ (write_dropped_is h s new fit)
      by (body.VersionKept version) brings names = ended h s.version _ (version_kept_is h s k version short s.phase brings fit pure)

  packet_is : (h : History) (s : Server) (p : Packet) (short : List Bool) (place : Option ℕ) → place_of m.hosts p.from ≡ place →
      ((k : ℕ) → place ≡ Some k → Brings Asked Answered Kept k p.body) → Names h.announced p.body → Fit h s → Pure h s →
      Ends h s.version (received_packet (always db) m s now p short place)
  packet_is h s p short None is brings names fit pure = ended h s.version _ (rests h s fit)
  packet_is h s p short (Some k) is brings names fit pure = received_is h s p.from k p.body short is (brings k refl) names fit pure

  -- what an event brings
  abbrev pub EventBrings : NodeEvent → Type 0
  EventBrings (event.Packet p) = (k : ℕ) → place_of m.hosts p.from ≡ Some k → Brings Asked Answered Kept k p.body
  EventBrings (event.Ask id call) = Called id call
  EventBrings _ = Unit {0}

  handled_is : (h : History) (s : Server) (e : NodeEvent) (short : List Bool) → EventBrings e → EventNames h.announced e → Fit h s →
      Pure h s → Ends h s.version (handled (always db) m s now e short)
  handled_is h s (event.Packet p) short brings names fit pure = packet_is h s p short (place_of m.hosts p.from) refl brings names fit pure
  handled_is h s event.BeaconTurn short brings names fit pure = beacon_turn_is h s fit
  handled_is h s event.RecoverTurn short brings names fit pure = ended h s.version _ (recovered_is h s s.phase refl fit)
  handled_is h s (event.Ask id call) short brings names fit pure = asked_as_is h s id call (is_short short) (db.writes call) refl brings fit pure

  pub step_ends : (h : History) (s : Server) (e : NodeEvent) (short : List Bool) → s.starts ≡ starts → KeptLeadsOn s.version s.kept →
      FlightMade db h.book s.version s.phase s.flight → IsLevel s.version s.phase s.flight → IsNamed h.announced s.beacon →
      CallsKnown Called s.flight s.waiting → IsImageOf db h.book s.version s.image → EventBrings e → EventNames h.announced e → I h (stand_of s) →
      Ends h s.version (step_of db m s now e short)
  unfolding step_by
  step_ends h s e short same leads flown level beacon calls pure brings names keeps =
      then (lapsed_is h s same leads flown level beacon calls keeps)
    where
      t : Stepped
      t = lapsed m s now

      next : Server → Stepped
      next after = handled (always db) m after now e (short_after t.shown short)

      then : Goes h s.version t → Ends h s.version (followed t next)
      then first =
          let second : Ends (after h m.me s.version t) t.server.version (next t.server) =
          handled_is (after h m.me s.version t) t.server e (short_after t.shown short) brings (names_on h.announced t.shown e names)
          first.fit (lapsed_pure h s pure) in
          record {
            keeps =
                subst (λ (g : History). I g (stand_of (next t.server).server))
                (after_both h m.me s.version t.server.version t (next t.server) first.rising) second.keeps;
            held = second.held;
            level = second.level;
            calls = second.calls;
            called = called_append Called t.shown (next t.server).shown first.called second.called;
            beacon =
                subst (λ (g : History). IsNamed g.announced (next t.server).server.beacon)
                (after_both h m.me s.version t.server.version t (next t.server) first.rising) second.beacon;
            flight =
                subst
                (λ (g : History). FlightMade db g.book (next t.server).server.version (next t.server).server.phase (next t.server).server.flight)
                (after_both h m.me s.version t.server.version t (next t.server) first.rising) second.flight;
            oks =
                subst (λ (g : History). AllOks g.book g.announced (t.shown ++ (next t.server).shown))
                (after_both h m.me s.version t.server.version t (next t.server) first.rising)
                (both_oks h s.version t t.server.version (next t.server) first.oks second.oks);
            served = λ x since beyond last ends.
                both_served h s.version t (next t.server) second.rising first.served x since
                (subst (λ (g : History). IsBeyond x g.book (next t.server).server.version)
                (sym (after_both h m.me s.version t.server.version t (next t.server) first.rising)) beyond) ends
                (λ later is. second.served x later
                (subst (λ (g : History). IsBeyond x g.book (next t.server).server.version)
                (sym (after_both h m.me s.version t.server.version t (next t.server) first.rising)) beyond) last is);
            rising =
                rising_append s.version t.server.version (next t.server).server.version t.calls (next t.server).calls first.rising
                second.rising;
          }
