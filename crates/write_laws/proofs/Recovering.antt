-- Recovery and its packets keep what a server knows, and answer no call.
use Rattle.std.proofs.Common.{Bool, true, false, cond, ◌==◌, ◌≡◌, ℕ, zero, suc, ◌+◌, ◌<◌, List, [], ◌∷◌, ◌++◌, length, map, refl, sym, subst}
use Rattle.std.proofs.lemmas.Bool.{cond_both}
use Rattle.std.specs.List.{AllByRecursion}
use Rattle.std.specs.Prelude.{◌*◌, Option, Some, None, ◌&&◌, not, nat_lt, is_some}
use Rattle.ubik_types.specs.declared.hosts.Host.{Host}
use Rattle.ubik_types.specs.declared.limits.TheConstants.{SMALLTIME}
use Rattle.ubik_types.specs.declared.versions.Version.{Version}
use Rattle.ubik_types.specs.Moment.{IsMoment}
use Rattle.ubik_types.specs.Phase.{Polled, Spread, PhaseRecord, NoPhase, Poll, Fetch, Relabel, Send, Ready}
use Rattle.ubik_types.specs.Quorum.{is_majority}
use Rattle.ubik_types.specs.Version.{IsVersion, version_lt, version_eq}
use Rattle.xdr_base.specs.ChangeText.{text_of}
use Rattle.ubik_calls.specs.declared.packets.Body.{Body}
use Rattle.ubik_calls.specs.declared.packets.Body.TheVariants as body
use Rattle.db_image.specs.Database.{Database}
use Rattle.cell_model.specs.Durable.{Received}
use Rattle.cell_model.specs.Durable as durables
use Rattle.cell_model.specs.Node.{Server, ReceivedText, Flight}
use Rattle.cell_model.specs.Pieces.{piece_count}
use Rattle.cell_model.specs.Polls.{new_poll, polling, only_holder, best_answer, first_with, entry_at, is_marked}
use Rattle.cell_model.specs.Recovery.{asks_versions, has_answered, spread_answer, spread_to, first_of_epoch, own_relabelling, relabelled_to}
use Rattle.cell_model.specs.Recovery.{relabelled, polled, sent_piece, fetched_from, poll_asked, poll_begun, bytes_received, spread_bodies, spread_again}
use Rattle.cell_model.specs.Recovery.{recovered, next_sent, piece_kept_received, text_with, is_whole, installed, fetch_installed}
use Rattle.cell_model.specs.Recovery.{lacking_sent, fetch_refused, fetch_went_on, piece_received}
use Rattle.cell_model.specs.Step.{Member, cell_size, Stepped, quiet, showing, leased, host_at, with_phase, with_database}
use Rattle.cell_model.specs.Writes.{put_pieces, write_bodies, settled_in, settled}
use Rattle.cell_places.proofs.Hosts.{HasPlace, host_placed, fetched_inside}
use Rattle.recovery_laws.specs.HasNoWrite.{IsPollOf, IsPhaseOf, IsReceived, IsTextOf}
use Rattle.recovery_laws.specs.Spreads.{IsLaterVersion}
use Rattle.recovery_laws.proofs.Facts.{above_first, first_is, first_later, new_poll_is, best_answer_is, text_is, whole_fits, piece_short}
use Rattle.write_laws.proofs.Facts.{Keeps, no_flight, phase_keeps, database_keeps, received_keeps, polling_keeps}
use Rattle.write_laws.proofs.Goes.{IsBoundedBody, Goes, one_silent, each_silent, turns, shows, rests, makes, follows, before}

-- ---- bodies

pub sent_bounded : (s : Server) (poll at : ℕ) → IsVersion s.version → IsBoundedBody (sent_piece s poll at)
sent_bounded s poll at is = (tt, (is, (tt, (tt, (piece_short s.image at, tt)))))

spread_bounded : (s : Server) (poll : ℕ) (old : Version) (has_old : Bool) → IsVersion old → IsVersion s.version →
    IsBoundedBody (spread_to s poll old has_old)
spread_bounded s poll old true before is = (tt, (before, (is, tt)))
spread_bounded s poll old false before is = sent_bounded s poll 0 is

bodies_if : (test : Bool) (bodies : List Body) → AllByRecursion IsBoundedBody bodies → AllByRecursion IsBoundedBody (cond test [] bodies)
bodies_if true bodies all = tt
bodies_if false bodies all = all

bodies_append : (bodies more : List Body) → AllByRecursion IsBoundedBody bodies → AllByRecursion IsBoundedBody more →
    AllByRecursion IsBoundedBody (bodies ++ more)
bodies_append [] more first second = second
bodies_append (b ∷ bodies) more first second = (first.0, bodies_append bodies more first.1 second)

pieces_bounded : (new : Version) (text : List ℕ) (number left : ℕ) → IsVersion new →
    AllByRecursion IsBoundedBody (put_pieces new text number left)
pieces_bounded new text number zero is = tt
pieces_bounded new text number (suc left) is =
    ((is, (tt, (piece_short text (number * 8192), tt))), pieces_bounded new text (number + 1) left is)

-- the packets of a write
pub write_bounded : (old new : Version) (text : List ℕ) → IsVersion old → IsVersion new →
    AllByRecursion IsBoundedBody (write_bodies old new text)
write_bounded old new text before after = (
  (before, (after, (tt, (tt, tt)))),
  bodies_append (put_pieces new text 0 (piece_count text)) (body.Commit old new ∷ [])
      (pieces_bounded new text 0 (piece_count text) after) ((before, (after, tt)), tt),
)

module _ (db : Database) (m : Member) (now : ℕ) (inside : m.me < cell_size m) (moment : IsMoment now) where
  abbrev Good : Server → Type 0
  Good s = Keeps db (cell_size m) s

  abbrev Part : ℕ → Server → Stepped → Type 0
  Part most s t = Goes db m most s t

  -- ---- relabelling

  -- holders of a database that is sent
  pub sending_goes : (s : Server) (poll : Polled) (spread : Spread) → s.flight ≡ None → IsPollOf (cell_size m) poll → IsVersion spread.old →
      Good s → Part 0 s (settled_in m s (Send poll spread))
  sending_goes s poll spread none is old good =
      cond_both (is_majority (cell_size m) spread.holders) _ _ (Part 0 s)
      (λ _. turns db m 0 s (with_phase s (Ready poll spread s.version)) _ refl refl
      (phase_keeps db (cell_size m) s (Ready poll spread s.version) none (is, old, good.version) good) (tt, tt))
      (λ _. rests db m 0 s good)

  answer_bodies : (s : Server) (poll : Polled) (old : Version) (v : Option Version) → IsVersion old → IsVersion s.version →
      AllByRecursion IsBoundedBody (spread_answer s poll old v)
  answer_bodies s poll old None before is = tt
  answer_bodies s poll old (Some v) before is = (spread_bounded s poll.number old (version_eq v old) before is, tt)

  pub relabelled_goes : (s : Server) (poll : Polled) → s.flight ≡ None → IsPollOf (cell_size m) poll → Good s → Part 1 s (relabelled m s poll now)
  relabelled_goes s poll none is good =
      cond_both (nat_lt s.version.epoch now) _ _ (Part 1 s)
      (λ _. follows db m 1 0 s begun (settled m) made
      (λ after. sending_goes begun.server poll (record { old = s.version; holders = only_holder m }) none is good.version after))
      (λ _. turns db m 1 s (with_phase s (Relabel poll)) [] refl refl (phase_keeps db (cell_size m) s (Relabel poll) none is good) tt)
    where
      begun : Stepped
      begun = relabelled_to m s poll (first_of_epoch now)

      made : Part 1 s begun
      made =
          makes db m s begun.server (own_relabelling (first_of_epoch now)) begun.shown refl refl (first_later now moment)
          (phase_keeps db (cell_size m) (with_database s (first_of_epoch now) s.image) begun.server.phase none (is, good.version)
          (database_keeps db (cell_size m) s (first_of_epoch now) s.image none (first_is now moment) good))
          (each_silent m inside (λ k. spread_answer begun.server poll s.version (entry_at poll.answers k))
          (λ k. answer_bodies begun.server poll s.version (entry_at poll.answers k) good.version (first_is now moment)))

  -- ---- polls

  pub polled_goes : (s : Server) (poll : Polled) → s.flight ≡ None → IsPollOf (cell_size m) poll → Good s → Part 1 s (polled m s poll now)
  polled_goes s poll none is good =
      cond_both (is_majority (cell_size m) (map is_some poll.answers)) _ _ (Part 1 s)
      (λ _. cond_both (version_lt s.version best) _ _ (Part 1 s) fetches (λ _. relabelled_goes s poll none is good))
      (λ _. turns db m 1 s (with_phase s (Poll poll)) [] refl refl (phase_keeps db (cell_size m) s (Poll poll) none is good) tt)
    where
      best : Version
      best = best_answer poll

      from : ℕ
      from = first_with (best_answer poll) poll.answers

      fetches : version_lt s.version (best_answer poll) ≡ true → Part 1 s (fetched_from m s poll best from)
      fetches better =
          let there : from < cell_size m = fetched_inside (cell_size m) poll s.version is.each better in
          turns db m 1 s (with_phase s (Fetch poll best from)) _ refl refl
          (phase_keeps db (cell_size m) s (Fetch poll best from) none (is, best_answer_is (cell_size m) poll is, there) good)
          (one_silent m inside (host_at m.hosts from) (body.GetPiece poll.number best 0) (host_placed m.hosts from there)
          (tt, (best_answer_is (cell_size m) poll is, (tt, tt))))

  poll_asked_goes : (s : Server) (poll : Polled) → s.flight ≡ None → IsPollOf (cell_size m) poll → Good s → Part 1 s (poll_asked m s poll now)
  poll_asked_goes s poll none is good =
      follows db m 0 1 s (showing s (asks_versions m poll.number (has_answered poll))) (λ after. polled m after poll now)
      (shows db m 0 s (asks_versions m poll.number (has_answered poll)) good
      (each_silent m inside (λ k. cond (has_answered poll k) [] (body.GetVersion poll.number ∷ []))
      (λ k. bodies_if (has_answered poll k) (body.GetVersion poll.number ∷ []) ((tt, tt), tt))))
      (λ after. polled_goes s poll none is after)

  poll_begun_goes : (s : Server) → s.flight ≡ None → Good s → Part 1 s (poll_begun m s now)
  poll_begun_goes s none good =
      before db m 1 s (polling m s now) (poll_begun m s now) refl refl
      (poll_asked_goes (polling m s now) (new_poll m s now) none (new_poll_is m s now good.version) (polling_keeps db m s now none good))

  -- ---- turns

  again_bodies : (s : Server) (poll : Polled) (announced : Version) (f : Option Flight) → IsVersion announced → Good s →
      AllByRecursion IsBoundedBody (spread_bodies s poll announced f)
  again_bodies s poll announced None is good = ((tt, tt), tt)
  again_bodies s poll announced (Some f) is good = write_bounded announced s.version (text_of f.changes) is good.version

  again_goes : (most : ℕ) (s : Server) (poll : Polled) (spread : Spread) (announced : Version) → IsVersion announced → Good s →
      Part most s (spread_again m s poll spread announced)
  again_goes most s poll spread announced is good =
      shows db m most s _ good
      (each_silent m inside (λ k. cond (is_marked spread.holders k) [] (spread_bodies s poll announced s.flight))
      (λ k. bodies_if (is_marked spread.holders k) (spread_bodies s poll announced s.flight)
      (again_bodies s poll announced s.flight is good)))

  -- the own phase is this one
  pub recovered_goes : (s : Server) (phase : PhaseRecord) → s.phase ≡ phase → IsPhaseOf (cell_size m) phase → Good s →
      Part 1 s (recovered m s now phase)
  recovered_goes s NoPhase at is good =
      cond_both (leased m s now) _ _ (Part 1 s) (λ _. poll_begun_goes s (no_flight db (cell_size m) s NoPhase at refl good) good)
      (λ _. rests db m 1 s good)
  recovered_goes s (Poll poll) at is good =
      poll_asked_goes s poll (no_flight db (cell_size m) s (Poll poll) at refl good) is good
  recovered_goes s (Fetch poll best k) at is good =
      cond_both (nat_lt (poll.number + SMALLTIME) now) _ _ (Part 1 s)
      (λ _. poll_begun_goes s (no_flight db (cell_size m) s (Fetch poll best k) at refl good) good)
      (λ _. shows db m 1 s _ good
      (one_silent m inside (host_at m.hosts k) (body.GetPiece poll.number best (bytes_received s.received)) (host_placed m.hosts k is.2)
      (tt, (is.1, (tt, tt)))))
  recovered_goes s (Relabel poll) at is good =
      relabelled_goes s poll (no_flight db (cell_size m) s (Relabel poll) at refl good) is good
  recovered_goes s (Send poll spread) at is good =
      follows db m 1 0 s (spread_again m s poll spread s.version) (settled m) (again_goes 1 s poll spread s.version good.version good)
      (λ after. settled_at s.phase at after)
    where
      settled_at : (phase : PhaseRecord) → phase ≡ Send poll spread → Good s → Part 0 s (settled_in m s phase)
      settled_at phase same after =
          subst (λ (p : PhaseRecord). Part 0 s (settled_in m s p)) (sym same)
          (sending_goes s poll spread (no_flight db (cell_size m) s (Send poll spread) at refl good) is.0 is.1 after)
  recovered_goes s (Ready poll spread announced) at is good = again_goes 1 s poll spread announced is.2 good

  -- ---- what another server lacks

  pub lacking_goes : (s : Server) (host : Host) (poll : Polled) (spread : Spread) (version : Version) (f : Option Flight) →
      HasPlace m.hosts host → IsVersion spread.old → Good s → Part 0 s (lacking_sent m s host poll spread version f)
  lacking_goes s host poll spread version None there old good =
      shows db m 0 s _ good
      (one_silent m inside host _ there
      (spread_bounded s poll.number spread.old (s.version.counter == 1 && version_eq version spread.old) old good.version))
  lacking_goes s host poll spread version (Some f) there old good = rests db m 0 s good

  -- another version than the fetched one is told
  pub refused_goes : (s : Server) (from : ℕ) (best : Version) (k : ℕ) (version : Version) → s.flight ≡ None → Good s →
      Part 1 s (fetch_refused m s now from best k version)
  refused_goes s from best k version none good =
      cond_both (from == k && not (version_eq version best)) _ _ (Part 1 s)
      (λ _. turns db m 1 s (polling m s now) [] refl refl (polling_keeps db m s now none good) tt) (λ _. rests db m 1 s good)

  -- ---- pieces

  next_sent_goes : (s : Server) (host : Host) (poll : Polled) (version : Version) (next : ℕ) (f : Option Flight) → HasPlace m.hosts host →
      Good s → Part 0 s (next_sent m s host poll version next f)
  next_sent_goes s host poll version next None there good =
      cond_both (version_eq version s.version && nat_lt next (length s.image)) _ _ (Part 0 s)
      (λ _. shows db m 0 s _ good (one_silent m inside host _ there (sent_bounded s poll.number next good.version))) (λ _. rests db m 0 s good)
  next_sent_goes s host poll version next (Some f) there good = rests db m 0 s good

  pub piece_kept_goes : (s : Server) (host : Host) (version : Version) (next : ℕ) (phase : PhaseRecord) → HasPlace m.hosts host → Good s →
      Part 0 s (piece_kept_received m s host version next phase)
  piece_kept_goes s host version next NoPhase there good = rests db m 0 s good
  piece_kept_goes s host version next (Poll poll) there good = rests db m 0 s good
  piece_kept_goes s host version next (Fetch poll best k) there good = rests db m 0 s good
  piece_kept_goes s host version next (Relabel poll) there good = rests db m 0 s good
  piece_kept_goes s host version next (Send poll spread) there good = next_sent_goes s host poll version next s.flight there good
  piece_kept_goes s host version next (Ready poll spread announced) there good = next_sent_goes s host poll version next s.flight there good

  pub installed_goes : (s : Server) (version : Version) (text : ReceivedText) → s.flight ≡ None → IsLaterVersion version → IsTextOf text →
      Good s → Part 1 s (installed s version text.bytes)
  installed_goes s version text none is whole good =
      makes db m s (with_database s version text.bytes) (record { call = durables.Install version text.bytes; reason = Received }) [] refl refl
      (is, whole_fits text whole) (database_keeps db (cell_size m) s version text.bytes none is.version good) tt

  fetch_goes : (s : Server) (poll : Polled) (best : Version) (from : ℕ) (text : Option ReceivedText) → s.flight ≡ None → IsReceived text →
      IsPollOf (cell_size m) poll → IsVersion best → from < cell_size m → Good s →
      Part 2 s (fetch_went_on m s now poll best from text)
  fetch_goes s poll best from None none is known version there good = rests db m 2 s good
  fetch_goes s poll best from (Some text) none is known version there good =
      cond_both (is_whole text) _ _ (Part 2 s)
      (λ _. follows db m 1 1 s (fetch_installed s best text.bytes) (λ after. relabelled m after poll now) (newer (version_lt s.version best) refl)
      (λ after. relabelled_goes (fetch_installed s best text.bytes).server poll (still (version_lt s.version best)) known after))
      (λ _. turns db m 2 s (record s { received = Some text }) _ refl refl (received_keeps db (cell_size m) s text is good)
      (one_silent m inside (host_at m.hosts from) (body.GetPiece poll.number best (length text.bytes)) (host_placed m.hosts from there)
      (tt, (version, (tt, tt)))))
    where
      newer : (t : Bool) → version_lt s.version best ≡ t → Part 1 s (cond t (installed s best text.bytes) (quiet s))
      newer true better =
          installed_goes s best text none (record { version = version; later = above_first s.version best better }) is good
      newer false not_better = rests db m 1 s good

      still : (t : Bool) → (cond t (installed s best text.bytes) (quiet s)).server.flight ≡ None
      still true = none
      still false = none

  pub piece_received_goes : (s : Server) (k number : ℕ) (version : Version) (total at : ℕ) (bytes : List ℕ) (phase : PhaseRecord) →
      s.phase ≡ phase → IsVersion version → IsPhaseOf (cell_size m) phase → Good s →
      Part 2 s (piece_received m s now k number version total at bytes phase)
  piece_received_goes s k number version total at bytes NoPhase in_it is known good = rests db m 2 s good
  piece_received_goes s k number version total at bytes (Poll poll) in_it is known good = rests db m 2 s good
  piece_received_goes s k number version total at bytes (Fetch poll best from) in_it is known good =
      cond_both (k == from && number == poll.number && version_eq version best) _ _ (Part 2 s)
      (λ _. fetch_goes s poll best from (text_with (bytes_received s.received == 0) k version total at bytes s.received)
      (no_flight db (cell_size m) s (Fetch poll best from) in_it refl good)
      (text_is (bytes_received s.received == 0) k version total at bytes s.received is good.received) known.0 known.1 known.2 good)
      (λ _. rests db m 2 s good)
  piece_received_goes s k number version total at bytes (Relabel poll) in_it is known good = rests db m 2 s good
  piece_received_goes s k number version total at bytes (Send poll spread) in_it is known good = rests db m 2 s good
  piece_received_goes s k number version total at bytes (Ready poll spread announced) in_it is known good = rests db m 2 s good
