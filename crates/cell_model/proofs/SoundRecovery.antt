-- The rules of recovery: each step is sound.
use Rattle.std.proofs.Common.{ℕ, ◌+◌, ◌==◌, Bool, List, [], length, map, refl}
use Rattle.std.specs.Prelude.{◌&&◌, not, nat_lt, is_some, Option, Some, None}
use Rattle.ubik_types.specs.declared.hosts.Host.{Host}
use Rattle.ubik_types.specs.declared.limits.TheConstants.{SMALLTIME}
use Rattle.ubik_types.specs.declared.versions.Version.{Version}
use Rattle.ubik_types.specs.Version.{version_lt, version_eq}
use Rattle.ubik_types.specs.Quorum.{is_majority}
use Rattle.ubik_types.specs.Phase.{Polled, Spread, PhaseRecord, NoPhase, Poll, Fetch, Relabel, Send, Ready}
use Rattle.db_image.specs.Database.{Database}
use Rattle.cell_model.specs.Evaluating.{always}
use Rattle.cell_model.specs.Node.{Server, ReceivedText, Flight}
use Rattle.cell_model.specs.Polls.{new_poll, polling, with_answer, best_answer}
use Rattle.cell_model.specs.Recovery.{asks_versions, has_answered, first_of_epoch, relabelled_to, relabelled, polled, poll_asked, poll_begun, bytes_received, next_asked, spread_again, recovered, recovery_turn, holder_added, held_by, lacking_sent, told_to_spread, version_is_received, version_kept_received, next_sent, piece_kept_received, sent_piece, text_with, is_whole, fetch_installed, fetch_went_on, piece_received}
use Rattle.cell_model.specs.Step.{Member, cell_size, showing, leased, with_phase, sends_to}
use Rattle.cell_model.specs.Writes.{settled}
use Rattle.cell_model.proofs.Sound.{IsSound, state_of, sends_caused, either, shows, follows}
use Rattle.cell_model.proofs.SoundReceiver.{quiet_is, installed_is}
use Rattle.cell_model.proofs.SoundWrites.{AllStand, settled_is, settled_with_turns_is}

module _ (db : Database) (at : ℕ) (Stands : ℕ → List ℕ → Type 0) where
  -- ---- polls and the relabelling

  relabelled_is : (m : Member) (s : Server) (poll : Polled) (now : ℕ) (short : List Bool) → IsSound db at Stands short (state_of s) (relabelled m s poll now)
  relabelled_is m s poll now short =
      let t = relabelled_to m s poll (first_of_epoch now) in
      either db at Stands (nat_lt s.version.epoch now)
      (follows db at Stands t (settled m) (record { leads = refl; caused = sends_caused db at Stands m _ short }) (settled_is db at Stands m t.server _))
      (record { leads = refl; caused = tt })

  polled_is : (m : Member) (s : Server) (poll : Polled) (now : ℕ) (short : List Bool) → IsSound db at Stands short (state_of s) (polled m s poll now)
  polled_is m s poll now short =
      either db at Stands (is_majority (cell_size m) (map is_some poll.answers))
      (either db at Stands (version_lt s.version (best_answer poll)) (record { leads = refl; caused = (tt, tt) }) (relabelled_is m s poll now short))
      (record { leads = refl; caused = tt })

  poll_asked_is : (m : Member) (s : Server) (poll : Polled) (now : ℕ) (short : List Bool) → IsSound db at Stands short (state_of s) (poll_asked m s poll now)
  poll_asked_is m s poll now short =
      let t = showing s (asks_versions m poll.number (has_answered poll)) in
      follows db at Stands t (λ after. polled m after poll now) (record { leads = refl; caused = sends_caused db at Stands m _ short }) (polled_is m s poll now _)

  poll_begun_is : (m : Member) (s : Server) (now : ℕ) (short : List Bool) → IsSound db at Stands short (state_of s) (poll_begun m s now)
  poll_begun_is m s now short = poll_asked_is m (polling m s now) (new_poll m s now) now short

  next_asked_is : (m : Member) (s : Server) (poll : Polled) (best : Version) (k : ℕ) (short : List Bool) → IsSound db at Stands short (state_of s) (next_asked m s poll best k)
  next_asked_is m s poll best k short = record { leads = refl; caused = (tt, tt) }

  spread_is : (m : Member) (s : Server) (poll : Polled) (spread : Spread) (announced : Version) (short : List Bool) → IsSound db at Stands short (state_of s) (spread_again m s poll spread announced)
  spread_is m s poll spread announced short = record { leads = refl; caused = sends_caused db at Stands m _ short }

  recovered_is : (m : Member) (s : Server) (now : ℕ) (phase : PhaseRecord) (short : List Bool) → IsSound db at Stands short (state_of s) (recovered m s now phase)
  recovered_is m s now NoPhase short = either db at Stands (leased m s now) (poll_begun_is m s now short) (quiet_is db at Stands short s)
  recovered_is m s now (Poll poll) short = poll_asked_is m s poll now short
  recovered_is m s now (Fetch poll best k) short =
      either db at Stands (nat_lt (poll.number + SMALLTIME) now) (poll_begun_is m s now short) (next_asked_is m s poll best k short)
  recovered_is m s now (Relabel poll) short = relabelled_is m s poll now short
  recovered_is m s now (Send poll spread) short =
      follows db at Stands (spread_again m s poll spread s.version) (settled m) (spread_is m s poll spread s.version short) (settled_is db at Stands m s _)
  recovered_is m s now (Ready poll spread announced) short = spread_is m s poll spread announced short

  pub recovery_turn_is : (m : Member) (s : Server) (now : ℕ) (short : List Bool) → IsSound db at Stands short (state_of s) (recovery_turn m s now)
  recovery_turn_is m s now short = recovered_is m s now s.phase short

  -- ---- pieces

  next_sent_is : (m : Member) (s : Server) (host : Host) (poll : Polled) (version : Version) (next : ℕ) (f : Option Flight) (short : List Bool) → IsSound db at Stands short (state_of s) (next_sent m s host poll version next f)
  next_sent_is m s host poll version next None short =
      either db at Stands (version_eq version s.version && nat_lt next (length s.image))
      (shows db at Stands short s (sends_to m host (sent_piece s poll.number next)) (tt, tt)) (quiet_is db at Stands short s)
  next_sent_is m s host poll version next (Some f) short = quiet_is db at Stands short s

  pub piece_kept_is : (m : Member) (s : Server) (host : Host) (version : Version) (next : ℕ) (phase : PhaseRecord) (short : List Bool) → IsSound db at Stands short (state_of s) (piece_kept_received m s host version next phase)
  piece_kept_is m s host version next NoPhase short = quiet_is db at Stands short s
  piece_kept_is m s host version next (Poll poll) short = quiet_is db at Stands short s
  piece_kept_is m s host version next (Fetch poll best k) short = quiet_is db at Stands short s
  piece_kept_is m s host version next (Relabel poll) short = quiet_is db at Stands short s
  piece_kept_is m s host version next (Send poll spread) short = next_sent_is m s host poll version next s.flight short
  piece_kept_is m s host version next (Ready poll spread announced) short = next_sent_is m s host poll version next s.flight short

  fetch_is : (m : Member) (s : Server) (now : ℕ) (poll : Polled) (best : Version) (from : ℕ) (text : Option ReceivedText) (short : List Bool) → IsSound db at Stands short (state_of s) (fetch_went_on m s now poll best from text)
  fetch_is m s now poll best from None short = quiet_is db at Stands short s
  fetch_is m s now poll best from (Some text) short =
      let t = fetch_installed s best text.bytes in
      either db at Stands (is_whole text)
      (follows db at Stands t (λ after. relabelled m after poll now)
      (either db at Stands (version_lt s.version best) (installed_is db at Stands s best text.bytes short) (quiet_is db at Stands short s))
      (relabelled_is m t.server poll now _))
      (next_asked_is m (record s { received = Some text }) poll best from short)

  pub piece_received_is : (m : Member) (s : Server) (now k number : ℕ) (version : Version) (total place : ℕ) (bytes : List ℕ) (phase : PhaseRecord) (short : List Bool) → IsSound db at Stands short (state_of s) (piece_received m s now k number version total place bytes phase)
  piece_received_is m s now k number version total place bytes NoPhase short = quiet_is db at Stands short s
  piece_received_is m s now k number version total place bytes (Poll poll) short = quiet_is db at Stands short s
  piece_received_is m s now k number version total place bytes (Fetch poll best from) short =
      either db at Stands (k == from && number == poll.number && version_eq version best)
      (fetch_is m s now poll best from (text_with (bytes_received s.received == 0) k version total place bytes s.received) short) (quiet_is db at Stands short s)
  piece_received_is m s now k number version total place bytes (Relabel poll) short = quiet_is db at Stands short s
  piece_received_is m s now k number version total place bytes (Send poll spread) short = quiet_is db at Stands short s
  piece_received_is m s now k number version total place bytes (Ready poll spread announced) short = quiet_is db at Stands short s

-- the moment is that of the turns
module _ (db : Database) (now : ℕ) (Stands : ℕ → List ℕ → Type 0) where
  -- ---- holders

  holder_is : (m : Member) (s : Server) (k : ℕ) (short : List Bool) → AllStand Stands s.waiting → IsSound db now Stands short (state_of s) (holder_added (always db) m s now k short)
  holder_is m s k short all = settled_with_turns_is db now Stands m (with_phase s (held_by s.phase k)) short all

  lacking_is : (m : Member) (s : Server) (host : Host) (poll : Polled) (spread : Spread) (version : Version) (f : Option Flight) (short : List Bool) → IsSound db now Stands short (state_of s) (lacking_sent m s host poll spread version f)
  lacking_is m s host poll spread version None short = record { leads = refl; caused = (tt, tt) }
  lacking_is m s host poll spread version (Some f) short = quiet_is db now Stands short s

  told_is : (m : Member) (s : Server) (host : Host) (k : ℕ) (poll : Polled) (spread : Spread) (number : ℕ) (version : Version) (short : List Bool) → AllStand Stands s.waiting → IsSound db now Stands short (state_of s) (told_to_spread (always db) m s now host k poll spread number version short)
  told_is m s host k poll spread number version short all =
      either db now Stands (number == poll.number)
      (either db now Stands (version_eq version s.version) (holder_is m s k short all) (lacking_is m s host poll spread version s.flight short))
      (quiet_is db now Stands short s)

  pub version_told_is : (m : Member) (s : Server) (host : Host) (k number : ℕ) (version : Version) (short : List Bool) (phase : PhaseRecord) → AllStand Stands s.waiting → IsSound db now Stands short (state_of s) (version_is_received (always db) m s now host k number version short phase)
  version_told_is m s host k number version short NoPhase all = quiet_is db now Stands short s
  version_told_is m s host k number version short (Poll poll) all =
      either db now Stands (number == poll.number) (polled_is db now Stands m s (with_answer poll k version) now short) (quiet_is db now Stands short s)
  version_told_is m s host k number version short (Fetch poll best from) all =
      either db now Stands (from == k && not (version_eq version best)) (shows db now Stands short (polling m s now) [] tt) (quiet_is db now Stands short s)
  version_told_is m s host k number version short (Relabel poll) all = quiet_is db now Stands short s
  version_told_is m s host k number version short (Send poll spread) all = told_is m s host k poll spread number version short all
  version_told_is m s host k number version short (Ready poll spread announced) all = told_is m s host k poll spread number version short all

  pub version_kept_is : (m : Member) (s : Server) (k : ℕ) (version : Version) (short : List Bool) (phase : PhaseRecord) → AllStand Stands s.waiting → IsSound db now Stands short (state_of s) (version_kept_received (always db) m s now k version short phase)
  version_kept_is m s k version short NoPhase all = quiet_is db now Stands short s
  version_kept_is m s k version short (Poll poll) all = quiet_is db now Stands short s
  version_kept_is m s k version short (Fetch poll best from) all = quiet_is db now Stands short s
  version_kept_is m s k version short (Relabel poll) all = quiet_is db now Stands short s
  version_kept_is m s k version short (Send poll spread) all =
      either db now Stands (version_eq version s.version) (holder_is m s k short all) (quiet_is db now Stands short s)
  version_kept_is m s k version short (Ready poll spread announced) all =
      either db now Stands (version_eq version s.version) (holder_is m s k short all) (quiet_is db now Stands short s)
