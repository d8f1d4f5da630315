-- Recovery and its packets keep a server without a write so.
use Rattle.std.proofs.Common.{Bool, true, cond, ◌==◌, ◌≡◌, ℕ, ◌+◌, ◌<◌, List, [], ◌∷◌, length, map, refl, arith}
use Rattle.std.proofs.lemmas.Bool.{cond_both}
use Rattle.std.specs.List.{AllByRecursion}
use Rattle.std.specs.Prelude.{Option, Some, None, ◌&&◌, not, nat_lt, is_some}
use Rattle.ubik_types.specs.declared.hosts.Host.{Host}
use Rattle.ubik_types.specs.declared.limits.TheConstants.{SMALLTIME}
use Rattle.ubik_types.specs.declared.versions.Version.{Version}
use Rattle.ubik_types.specs.Moment.{IsMoment}
use Rattle.ubik_types.specs.Phase.{Polled, Spread, PhaseRecord, NoPhase, Poll, Fetch, Relabel, Send, Ready}
use Rattle.ubik_types.specs.Quorum.{is_majority}
use Rattle.ubik_types.specs.Version.{IsVersion, version_lt, version_eq}
use Rattle.ubik_calls.specs.declared.packets.Body.TheVariants as body
use Rattle.db_image.specs.Database.{Database}
use Rattle.cell_model.specs.declared.events.NodeEvent.{NodeEvent}
use Rattle.cell_model.specs.Durable.{Received}
use Rattle.cell_model.specs.Durable as durables
use Rattle.cell_model.specs.Evaluating.{always}
use Rattle.cell_model.specs.Node.{Server, ReceivedText, Flight, Waiting}
use Rattle.cell_model.specs.Polls.{new_poll, polling, with_answer, best_answer, first_with, entry_at, is_marked}
use Rattle.cell_model.specs.Recovery.{asks_versions, has_answered, spread_answer, first_of_epoch, own_relabelling, relabelled_to, relabelled, polled}
use Rattle.cell_model.specs.Recovery.{fetched_from, poll_asked, poll_begun, bytes_received, spread_bodies, spread_again, recovered, held_by, holder_added}
use Rattle.cell_model.specs.Recovery.{lacking_sent, told_to_spread, version_is_received, version_kept_received, next_sent}
use Rattle.cell_model.specs.Recovery.{piece_kept_received, text_with, is_whole, installed, fetch_installed, fetch_went_on, piece_received}
use Rattle.cell_model.specs.Step.{Member, cell_size, Stepped, showing, leased, host_at, with_phase, with_database, short_after}
use Rattle.cell_model.specs.Writes.{flight_settled, settled_in, settled, next_turns}
use Rattle.cell_places.proofs.Hosts.{HasPlace, host_placed, fetched_inside}
use Rattle.recovery_laws.specs.HasNoWrite.{IsPollOf, IsPhaseOf, IsReceived, IsTextOf, HasNoWrite, IsRecoveryBody}
use Rattle.recovery_laws.specs.Spreads.{IsLaterVersion}
use Rattle.recovery_laws.proofs.Facts.{above_first, first_is, first_later, new_poll_is, answered_is, best_answer_is, held_is}
use Rattle.recovery_laws.proofs.Facts.{phase_is, database_is, received_is, text_is, whole_fits, asked_body, sent_body, spread_body, bodies_if}
use Rattle.recovery_laws.proofs.Goes.{Goes, one_fine, each_fine, turns, shows, rests, makes, follows, before, within}

module _ (m : Member) (now : ℕ) (e : NodeEvent) (inside : m.me < cell_size m) (moment : IsMoment now) where
  abbrev Good : Server → Type 0
  Good s = HasNoWrite (cell_size m) s

  -- ---- holders

  flight_goes : (s : Server) (poll : Polled) (spread : Spread) (announced : Version) (f : Option Flight) → f ≡ None → Good s →
      Goes 0 m e s (flight_settled m s poll spread announced f)
  flight_goes s poll spread announced None is good = rests m e 0 s good
  flight_goes s poll spread announced (Some f) is good = absurd (cc)

  settled_in_goes : (s : Server) (phase : PhaseRecord) → IsPhaseOf (cell_size m) phase → Good s → Goes 0 m e s (settled_in m s phase)
  settled_in_goes s NoPhase is good = rests m e 0 s good
  settled_in_goes s (Poll poll) is good = rests m e 0 s good
  settled_in_goes s (Fetch poll best host) is good = rests m e 0 s good
  settled_in_goes s (Relabel poll) is good = rests m e 0 s good
  settled_in_goes s (Send poll spread) is good =
      cond_both (is_majority (cell_size m) spread.holders) _ _ (Goes 0 m e s)
      (λ _. turns m e 0 s (with_phase s (Ready poll spread s.version)) _ refl
      (phase_is (cell_size m) s (Ready poll spread s.version) (is.0, is.1, good.version) good) (tt, tt))
      (λ _. rests m e 0 s good)
  settled_in_goes s (Ready poll spread announced) is good = flight_goes s poll spread announced s.flight good.flight good

  pub settled_goes : (s : Server) → Good s → Goes 0 m e s (settled m s)
  settled_goes s good = settled_in_goes s s.phase good.phase good

  -- ---- relabelling

  answer_bodies : (s : Server) (poll : Polled) (old : Version) (v : Option Version) → IsVersion old → IsVersion s.version →
      AllByRecursion IsRecoveryBody (spread_answer s poll old v)
  answer_bodies s poll old None before is = tt
  answer_bodies s poll old (Some v) before is = (spread_body s poll.number old (version_eq v old) before is, tt)

  pub relabelled_goes : (s : Server) (poll : Polled) → IsPollOf (cell_size m) poll → Good s → Goes 1 m e s (relabelled m s poll now)
  relabelled_goes s poll is good =
      cond_both (nat_lt s.version.epoch now) _ _ (Goes 1 m e s)
      (λ _. follows m e 1 0 s begun (settled m) made (λ after. settled_goes begun.server after))
      (λ _. turns m e 1 s (with_phase s (Relabel poll)) [] refl (phase_is (cell_size m) s (Relabel poll) is good) tt)
    where
      begun : Stepped
      begun = relabelled_to m s poll (first_of_epoch now)

      made : Goes 1 m e s begun
      made =
          makes m e s begun.server (own_relabelling (first_of_epoch now)) begun.shown refl (first_later now moment) tt
          (phase_is (cell_size m) (with_database s (first_of_epoch now) s.image) begun.server.phase (is, good.version)
          (database_is (cell_size m) s (first_of_epoch now) s.image (first_is now moment) good))
          (each_fine m e inside (λ k. spread_answer begun.server poll s.version (entry_at poll.answers k))
          (λ k. answer_bodies begun.server poll s.version (entry_at poll.answers k) good.version (first_is now moment)))

  -- ---- polls

  pub polled_goes : (s : Server) (poll : Polled) → IsPollOf (cell_size m) poll → Good s → Goes 1 m e s (polled m s poll now)
  polled_goes s poll is good =
      cond_both (is_majority (cell_size m) (map is_some poll.answers)) _ _ (Goes 1 m e s)
      (λ _. cond_both (version_lt s.version best) _ _ (Goes 1 m e s) fetches (λ _. relabelled_goes s poll is good))
      (λ _. turns m e 1 s (with_phase s (Poll poll)) [] refl (phase_is (cell_size m) s (Poll poll) is good) tt)
    where
      best : Version
      best = best_answer poll

      from : ℕ
      from = first_with (best_answer poll) poll.answers

      fetches : version_lt s.version (best_answer poll) ≡ true →
          Goes 1 m e s (fetched_from m s poll best from)
      fetches better =
          let there : from < cell_size m = fetched_inside (cell_size m) poll s.version is.each better in
          turns m e 1 s (with_phase s (Fetch poll best from)) _ refl
          (phase_is (cell_size m) s (Fetch poll best from) (is, best_answer_is (cell_size m) poll is, there) good)
          (one_fine m e inside (host_at m.hosts from) (body.GetPiece poll.number best 0) (host_placed m.hosts from there)
          (asked_body poll.number best 0 (best_answer_is (cell_size m) poll is)))

  asks_bodies : (number : ℕ) (asked : Bool) → AllByRecursion IsRecoveryBody (cond asked [] (body.GetVersion number ∷ []))
  asks_bodies number asked = bodies_if asked (body.GetVersion number ∷ []) (record { kind = tt; bounded = (tt, tt) }, tt)

  poll_asked_goes : (s : Server) (poll : Polled) → IsPollOf (cell_size m) poll → Good s → Goes 1 m e s (poll_asked m s poll now)
  poll_asked_goes s poll is good =
      follows m e 0 1 s (showing s (asks_versions m poll.number (has_answered poll))) (λ after. polled m after poll now)
      (shows m e 0 s (asks_versions m poll.number (has_answered poll)) good
      (each_fine m e inside (λ k. cond (has_answered poll k) [] (body.GetVersion poll.number ∷ []))
      (λ k. asks_bodies poll.number (has_answered poll k))))
      (λ after. polled_goes s poll is after)

  -- a poll of its own begins
  pub polling_is : (s : Server) → Good s → Good (polling m s now)
  polling_is s good = phase_is (cell_size m) s (Poll (new_poll m s now)) (new_poll_is m s now good.version) good

  poll_begun_goes : (s : Server) → Good s → Goes 1 m e s (poll_begun m s now)
  poll_begun_goes s good =
      before m e 1 s (polling m s now) (poll_begun m s now) refl
      (poll_asked_goes (polling m s now) (new_poll m s now) (new_poll_is m s now good.version) (polling_is s good))

  -- ---- turns

  again_bodies : (s : Server) (poll : Polled) (announced : Version) (f : Option Flight) → f ≡ None →
      AllByRecursion IsRecoveryBody (spread_bodies s poll announced f)
  again_bodies s poll announced None is = (record { kind = tt; bounded = (tt, tt) }, tt)
  again_bodies s poll announced (Some f) is = absurd (cc)

  again_goes : (most : ℕ) (s : Server) (poll : Polled) (spread : Spread) (announced : Version) → Good s →
      Goes most m e s (spread_again m s poll spread announced)
  again_goes most s poll spread announced good =
      shows m e most s _ good
      (each_fine m e inside (λ k. cond (is_marked spread.holders k) [] (spread_bodies s poll announced s.flight))
      (λ k. bodies_if (is_marked spread.holders k) (spread_bodies s poll announced s.flight)
      (again_bodies s poll announced s.flight good.flight)))

  pub recovered_goes : (s : Server) (phase : PhaseRecord) → IsPhaseOf (cell_size m) phase → Good s → Goes 1 m e s (recovered m s now phase)
  recovered_goes s NoPhase is good =
      cond_both (leased m s now) _ _ (Goes 1 m e s) (λ _. poll_begun_goes s good) (λ _. rests m e 1 s good)
  recovered_goes s (Poll poll) is good = poll_asked_goes s poll is good
  recovered_goes s (Fetch poll best k) is good =
      cond_both (nat_lt (poll.number + SMALLTIME) now) _ _ (Goes 1 m e s) (λ _. poll_begun_goes s good)
      (λ _. shows m e 1 s _ good
      (one_fine m e inside (host_at m.hosts k) (body.GetPiece poll.number best (bytes_received s.received)) (host_placed m.hosts k is.2)
      (asked_body poll.number best (bytes_received s.received) is.1)))
  recovered_goes s (Relabel poll) is good = relabelled_goes s poll is good
  recovered_goes s (Send poll spread) is good =
      follows m e 1 0 s (spread_again m s poll spread s.version) (settled m) (again_goes 1 s poll spread s.version good)
      (λ after. settled_goes s after)
  recovered_goes s (Ready poll spread announced) is good = again_goes 1 s poll spread announced good

  -- ---- holders that are told

  module _ (db : Database) where
    none_turns : (s : Server) (waiting : List Waiting) (short : List Bool) → waiting ≡ [] → Good s →
        Goes 0 m e s (next_turns (always db) m now waiting s short)
    none_turns s [] short is good = rests m e 0 s good
    none_turns s (w ∷ waiting) short is good = absurd (cc)

    holder_goes : (s : Server) (k : ℕ) (short : List Bool) → Good s → Goes 0 m e s (holder_added (always db) m s now k short)
    holder_goes s k short good =
        let u : Server = with_phase s (held_by s.phase k) in
        before m e 0 s u (holder_added (always db) m s now k short) refl
        (follows m e 0 0 u (settled m u)
        (λ after. next_turns (always db) m now after.waiting after (short_after (settled m u).shown short))
        (settled_goes u (phase_is (cell_size m) s (held_by s.phase k) (held_is (cell_size m) s.phase k good.phase) good))
        (λ after. none_turns (settled m u).server (settled m u).server.waiting (short_after (settled m u).shown short) after.waiting after))

    lacking_goes : (s : Server) (host : Host) (poll : Polled) (spread : Spread) (version : Version) (f : Option Flight) →
        HasPlace m.hosts host → IsVersion spread.old → Good s → Goes 0 m e s (lacking_sent m s host poll spread version f)
    lacking_goes s host poll spread version None there old good =
        shows m e 0 s _ good
        (one_fine m e inside host _ there
        (spread_body s poll.number spread.old (s.version.counter == 1 && version_eq version spread.old) old good.version))
    lacking_goes s host poll spread version (Some f) there old good = rests m e 0 s good

    told_goes : (s : Server) (host : Host) (k : ℕ) (poll : Polled) (spread : Spread) (number : ℕ) (version : Version) (short : List Bool) →
        HasPlace m.hosts host → IsVersion spread.old → Good s →
        Goes 0 m e s (told_to_spread (always db) m s now host k poll spread number version short)
    told_goes s host k poll spread number version short there old good =
        cond_both (number == poll.number) _ _ (Goes 0 m e s)
        (λ _. cond_both (version_eq version s.version) _ _ (Goes 0 m e s) (λ _. holder_goes s k short good)
        (λ _. lacking_goes s host poll spread version s.flight there old good))
        (λ _. rests m e 0 s good)

    pub version_is_goes : (s : Server) (host : Host) (k number : ℕ) (version : Version) (short : List Bool) (phase : PhaseRecord) →
        HasPlace m.hosts host → IsVersion version → IsPhaseOf (cell_size m) phase → Good s →
        Goes 1 m e s (version_is_received (always db) m s now host k number version short phase)
    version_is_goes s host k number version short NoPhase there is known good = rests m e 1 s good
    version_is_goes s host k number version short (Poll poll) there is known good =
        cond_both (number == poll.number) _ _ (Goes 1 m e s)
        (λ _. polled_goes s (with_answer poll k version) (answered_is (cell_size m) poll k version is known) good) (λ _. rests m e 1 s good)
    version_is_goes s host k number version short (Fetch poll best from) there is known good =
        cond_both (from == k && not (version_eq version best)) _ _ (Goes 1 m e s)
        (λ _. turns m e 1 s (polling m s now) [] refl (polling_is s good) tt) (λ _. rests m e 1 s good)
    version_is_goes s host k number version short (Relabel poll) there is known good = rests m e 1 s good
    version_is_goes s host k number version short (Send poll spread) there is known good =
        within m e 0 1 s _ (omega arith) (told_goes s host k poll spread number version short there known.1 good)
    version_is_goes s host k number version short (Ready poll spread announced) there is known good =
        within m e 0 1 s _ (omega arith) (told_goes s host k poll spread number version short there known.1 good)

    pub version_kept_goes : (s : Server) (k : ℕ) (version : Version) (short : List Bool) (phase : PhaseRecord) → Good s →
        Goes 0 m e s (version_kept_received (always db) m s now k version short phase)
    version_kept_goes s k version short NoPhase good = rests m e 0 s good
    version_kept_goes s k version short (Poll poll) good = rests m e 0 s good
    version_kept_goes s k version short (Fetch poll best from) good = rests m e 0 s good
    version_kept_goes s k version short (Relabel poll) good = rests m e 0 s good
    version_kept_goes s k version short (Send poll spread) good =
        cond_both (version_eq version s.version) _ _ (Goes 0 m e s) (λ _. holder_goes s k short good) (λ _. rests m e 0 s good)
    version_kept_goes s k version short (Ready poll spread announced) good =
        cond_both (version_eq version s.version) _ _ (Goes 0 m e s) (λ _. holder_goes s k short good) (λ _. rests m e 0 s good)

  -- ---- pieces

  next_sent_goes : (s : Server) (host : Host) (poll : Polled) (version : Version) (next : ℕ) (f : Option Flight) → HasPlace m.hosts host →
      Good s → Goes 0 m e s (next_sent m s host poll version next f)
  next_sent_goes s host poll version next None there good =
      cond_both (version_eq version s.version && nat_lt next (length s.image)) _ _ (Goes 0 m e s)
      (λ _. shows m e 0 s _ good (one_fine m e inside host _ there (sent_body s poll.number next good.version))) (λ _. rests m e 0 s good)
  next_sent_goes s host poll version next (Some f) there good = rests m e 0 s good

  pub piece_kept_goes : (s : Server) (host : Host) (version : Version) (next : ℕ) (phase : PhaseRecord) → HasPlace m.hosts host → Good s →
      Goes 0 m e s (piece_kept_received m s host version next phase)
  piece_kept_goes s host version next NoPhase there good = rests m e 0 s good
  piece_kept_goes s host version next (Poll poll) there good = rests m e 0 s good
  piece_kept_goes s host version next (Fetch poll best k) there good = rests m e 0 s good
  piece_kept_goes s host version next (Relabel poll) there good = rests m e 0 s good
  piece_kept_goes s host version next (Send poll spread) there good = next_sent_goes s host poll version next s.flight there good
  piece_kept_goes s host version next (Ready poll spread announced) there good = next_sent_goes s host poll version next s.flight there good

  pub installed_goes : (s : Server) (version : Version) (text : ReceivedText) → IsLaterVersion version → IsTextOf text → Good s →
      Goes 1 m e s (installed s version text.bytes)
  installed_goes s version text is whole good =
      makes m e s (with_database s version text.bytes) (record { call = durables.Install version text.bytes; reason = Received }) [] refl
      (is, whole_fits text whole) tt (database_is (cell_size m) s version text.bytes is.version good) tt

  fetch_goes : (s : Server) (poll : Polled) (best : Version) (from : ℕ) (text : Option ReceivedText) → IsReceived text →
      IsPollOf (cell_size m) poll → IsVersion best → from < cell_size m → Good s →
      Goes 2 m e s (fetch_went_on m s now poll best from text)
  fetch_goes s poll best from None is known version there good = rests m e 2 s good
  fetch_goes s poll best from (Some text) is known version there good =
      cond_both (is_whole text) _ _ (Goes 2 m e s)
      (λ _. follows m e 1 1 s (fetch_installed s best text.bytes) (λ after. relabelled m after poll now)
      (cond_both (version_lt s.version best) _ _ (Goes 1 m e s)
      (λ better. installed_goes s best text (record { version = version; later = above_first s.version best better }) is good) (λ _. rests m e 1 s good))
      (λ after. relabelled_goes (fetch_installed s best text.bytes).server poll known after))
      (λ _. turns m e 2 s (record s { received = Some text }) _ refl (received_is (cell_size m) s text is good)
      (one_fine m e inside (host_at m.hosts from) (body.GetPiece poll.number best (length text.bytes)) (host_placed m.hosts from there)
      (asked_body poll.number best (length text.bytes) version)))

  pub piece_received_goes : (s : Server) (k number : ℕ) (version : Version) (total at : ℕ) (bytes : List ℕ) (phase : PhaseRecord) →
      IsVersion version → IsPhaseOf (cell_size m) phase → Good s →
      Goes 2 m e s (piece_received m s now k number version total at bytes phase)
  piece_received_goes s k number version total at bytes NoPhase is known good = rests m e 2 s good
  piece_received_goes s k number version total at bytes (Poll poll) is known good = rests m e 2 s good
  piece_received_goes s k number version total at bytes (Fetch poll best from) is known good =
      cond_both (k == from && number == poll.number && version_eq version best) _ _ (Goes 2 m e s)
      (λ _. fetch_goes s poll best from (text_with (bytes_received s.received == 0) k version total at bytes s.received)
      (text_is (bytes_received s.received == 0) k version total at bytes s.received is good.received) known.0 known.1 known.2 good)
      (λ _. rests m e 2 s good)
  piece_received_goes s k number version total at bytes (Relabel poll) is known good = rests m e 2 s good
  piece_received_goes s k number version total at bytes (Send poll spread) is known good = rests m e 2 s good
  piece_received_goes s k number version total at bytes (Ready poll spread announced) is known good = rests m e 2 s good
