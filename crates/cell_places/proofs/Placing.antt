-- Each event keeps phases placed, and each packet that is sent goes from host to host of the cell.
use Rattle.std.proofs.Common.{Bool, true, cond, ◌==◌, ◌≡◌, ℕ, ◌+◌, ◌<◌, List, [], ◌∷◌, length, map, refl, ap, ◌∙◌}
use Rattle.std.proofs.lemmas.Bool.{cond_both}
use Rattle.std.proofs.lemmas.List.{length-set}
use Rattle.std.specs.Prelude.{Option, Some, None, ◌&&◌, ◌||◌, not, nat_lt, nat_le, is_none, is_some}
use Rattle.ubik_types.specs.declared.hosts.Host.{Host}
use Rattle.ubik_types.specs.declared.images.Change.{Change}
use Rattle.ubik_types.specs.declared.limits.TheConstants.{SMALLTIME}
use Rattle.ubik_types.specs.declared.phases.Phase.TheVariants as phases
use Rattle.ubik_types.specs.declared.versions.Version.{Version}
use Rattle.ubik_types.specs.Logged.{too_large}
use Rattle.ubik_types.specs.Phase.{Polled, Spread, PhaseRecord, NoPhase, Poll, Fetch, Relabel, Send, Ready}
use Rattle.ubik_types.specs.Quorum.{is_majority}
use Rattle.ubik_types.specs.Version.{version_lt, version_eq}
use Rattle.ubik_types.specs.Votes.{beacon_is_due}
use Rattle.ubik_calls.specs.declared.packets.Packet.{Packet}
use Rattle.ubik_calls.specs.declared.packets.Body.{Body}
use Rattle.ubik_calls.specs.declared.packets.Body.TheVariants as body
use Rattle.ubik_calls.specs.declared.packets.TheConstants.{MAX_PIECES}
use Rattle.db_image.specs.Database.{Database}
use Rattle.cell_model.specs.declared.events.NodeEvent.{NodeEvent}
use Rattle.cell_model.specs.declared.events.NodeEvent.TheVariants as event
use Rattle.cell_model.specs.Evaluating.{always}
use Rattle.cell_model.specs.Lapse.{lapsed, write_lapsed, writes_refused, without_writes}
use Rattle.cell_model.specs.Node.{Server, ReceivedText, Flight}
use Rattle.cell_model.specs.NodeRule.{place_of, received_from, received_packet, handled, step_of, step_by}
use Rattle.cell_model.specs.Polls.{new_poll, polling, with_answer, best_answer, first_with}
use Rattle.cell_model.specs.Receiver.{is_sending, answers_version_kept, answers_version_is, relabelled_by, set_version_received, text_went_on}
use Rattle.cell_model.specs.Receiver.{send_piece_received, begin_received, committed_by, write_taken, whole_write}
use Rattle.cell_model.specs.Receiver.{commit_received, get_piece_received}
use Rattle.cell_model.specs.Recovery.{asks_versions, has_answered, first_of_epoch, relabelled_to, relabelled, fetched_from, polled, poll_asked}
use Rattle.cell_model.specs.Recovery.{poll_begun, spread_again, recovered, held_by, holder_added, lacking_sent, told_to_spread}
use Rattle.cell_model.specs.Recovery.{version_is_received, version_kept_received, next_sent, piece_kept_received, text_with, is_whole, installed}
use Rattle.cell_model.specs.Recovery.{bytes_received, fetch_installed, fetch_went_on, piece_received}
use Rattle.cell_model.specs.Step.{Member, cell_size, Stepped, quiet, showing, leased, host_at, is_fetch, with_phase, is_short}
use Rattle.cell_model.specs.Step.{short_after, sends_to_each}
use Rattle.cell_model.specs.Voting.{own_beacon, beacon_turn}
use Rattle.cell_model.specs.Writes.{settled}
use Rattle.cell_places.specs.Places.{IsPhaseOf, IsPollOf, PacketsHavePlaces}
use Rattle.cell_places.proofs.Asking.{quiet_placed, shows_placed, new_poll_placed, settled_placed, turns_placed, asked_placed}
use Rattle.cell_places.proofs.Hosts.{HasPlace, host_placed, fetched_inside}
use Rattle.cell_places.proofs.Placed.{Placed, follows, one_placed, each_placed, placed_append, refused_placed, placed_step}

module _ (m : Member) (inside : m.me < cell_size m) (now : ℕ) where
  abbrev Fits : PhaseRecord → Type 0
  Fits phase = IsPhaseOf (cell_size m) phase

  rests : (s : Server) → Fits s.phase → Placed m (quiet s)
  rests = quiet_placed m inside

  -- ---- recovery

  relabelled_placed : (s : Server) (poll : Polled) → IsPollOf (cell_size m) poll → Placed m (relabelled m s poll now)
  relabelled_placed s poll is =
      let begun : Stepped = relabelled_to m s poll (first_of_epoch now) in
      cond_both (nat_lt s.version.epoch now) _ _ (Placed m)
      (λ _. follows m begun (settled m) (record { phase = is; shown = each_placed m inside _ })
      (λ after. settled_placed m inside begun.server after))
      (λ _. record { phase = is; shown = tt })

  polled_placed : (s : Server) (poll : Polled) → IsPollOf (cell_size m) poll → Placed m (polled m s poll now)
  polled_placed s poll is =
      cond_both (is_majority (cell_size m) (map is_some poll.answers)) _ _ (Placed m)
      (λ _. cond_both (version_lt s.version (best_answer poll)) _ _ (Placed m) fetches (λ _. relabelled_placed s poll is))
      (λ _. record { phase = is; shown = tt })
    where
      from : ℕ
      from = first_with (best_answer poll) poll.answers

      fetches : version_lt s.version (best_answer poll) ≡ true → Placed m (fetched_from m s poll (best_answer poll) from)
      fetches better =
          let there : from < cell_size m = fetched_inside (cell_size m) poll s.version is better in
          record {
            phase = (is, there);
            shown =
                one_placed m inside (host_at m.hosts from) (body.GetPiece poll.number (best_answer poll) 0) (host_placed m.hosts from there);
          }

  poll_asked_placed : (s : Server) (poll : Polled) → IsPollOf (cell_size m) poll → Fits s.phase → Placed m (poll_asked m s poll now)
  poll_asked_placed s poll is fits =
      follows m (showing s (asks_versions m poll.number (has_answered poll))) (λ after. polled m after poll now)
      (shows_placed m inside s (asks_versions m poll.number (has_answered poll)) fits
      (each_placed m inside (λ k. cond (has_answered poll k) [] (body.GetVersion poll.number ∷ []))))
      (λ _. polled_placed s poll is)

  poll_begun_placed : (s : Server) → Placed m (poll_begun m s now)
  poll_begun_placed s =
      poll_asked_placed (polling m s now) (new_poll m s now) (new_poll_placed m inside s now) (new_poll_placed m inside s now)

  again_placed : (s : Server) (poll : Polled) (spread : Spread) (announced : Version) → Fits s.phase →
      Placed m (spread_again m s poll spread announced)
  again_placed s poll spread announced fits = shows_placed m inside s _ fits (each_placed m inside _)

  recovered_placed : (s : Server) (phase : PhaseRecord) → Fits phase → Fits s.phase → Placed m (recovered m s now phase)
  recovered_placed s NoPhase is fits =
      cond_both (leased m s now) _ _ (Placed m) (λ _. poll_begun_placed s) (λ _. rests s fits)
  recovered_placed s (Poll poll) is fits = poll_asked_placed s poll is fits
  recovered_placed s (Fetch poll best k) is fits =
      cond_both (nat_lt (poll.number + SMALLTIME) now) _ _ (Placed m) (λ _. poll_begun_placed s)
      (λ _. shows_placed m inside s _ fits
      (one_placed m inside (host_at m.hosts k) (body.GetPiece poll.number best (bytes_received s.received)) (host_placed m.hosts k is.1)))
  recovered_placed s (Relabel poll) is fits = relabelled_placed s poll is
  recovered_placed s (Send poll spread) is fits =
      follows m (spread_again m s poll spread s.version) (settled m) (again_placed s poll spread s.version fits)
      (λ after. settled_placed m inside s after)
  recovered_placed s (Ready poll spread announced) is fits = again_placed s poll spread announced fits

  -- ---- holders that are told

  held_placed : (phase : PhaseRecord) (k : ℕ) → Fits phase → Fits (held_by phase k)
  held_placed NoPhase k is = is
  held_placed (Poll poll) k is = is
  held_placed (Fetch poll best host) k is = is
  held_placed (Relabel poll) k is = is
  held_placed (Send poll spread) k is = is
  held_placed (Ready poll spread announced) k is = is

  module _ (db : Database) where
    holder_placed : (s : Server) (k : ℕ) (short : List Bool) → Fits s.phase → Placed m (holder_added (always db) m s now k short)
    holder_placed s k short fits =
        turns_placed m inside db now (with_phase s (held_by s.phase k)) short (held_placed s.phase k fits)

    lacking_placed : (s : Server) (host : Host) (poll : Polled) (spread : Spread) (version : Version) (f : Option Flight) →
        HasPlace m.hosts host → Fits s.phase → Placed m (lacking_sent m s host poll spread version f)
    lacking_placed s host poll spread version None there fits = shows_placed m inside s _ fits (one_placed m inside host _ there)
    lacking_placed s host poll spread version (Some f) there fits = rests s fits

    told_placed : (s : Server) (host : Host) (k : ℕ) (poll : Polled) (spread : Spread) (number : ℕ) (version : Version) (short : List Bool) →
        HasPlace m.hosts host → Fits s.phase → Placed m (told_to_spread (always db) m s now host k poll spread number version short)
    told_placed s host k poll spread number version short there fits =
        cond_both (number == poll.number) _ _ (Placed m)
        (λ _. cond_both (version_eq version s.version) _ _ (Placed m) (λ _. holder_placed s k short fits)
        (λ _. lacking_placed s host poll spread version s.flight there fits))
        (λ _. rests s fits)

    version_is_placed : (s : Server) (host : Host) (k number : ℕ) (version : Version) (short : List Bool) (phase : PhaseRecord) →
        HasPlace m.hosts host → Fits phase → Fits s.phase → Placed m (version_is_received (always db) m s now host k number version short phase)
    version_is_placed s host k number version short NoPhase there is fits = rests s fits
    version_is_placed s host k number version short (Poll poll) there is fits =
        cond_both (number == poll.number) _ _ (Placed m)
        (λ _. polled_placed s (with_answer poll k version) (length-set poll.answers k (Some version) ∙ is)) (λ _. rests s fits)
    version_is_placed s host k number version short (Fetch poll best from) there is fits =
        cond_both (from == k && not (version_eq version best)) _ _ (Placed m)
        (λ _. record { phase = new_poll_placed m inside s now; shown = tt }) (λ _. rests s fits)
    version_is_placed s host k number version short (Relabel poll) there is fits = rests s fits
    version_is_placed s host k number version short (Send poll spread) there is fits =
        told_placed s host k poll spread number version short there fits
    version_is_placed s host k number version short (Ready poll spread announced) there is fits =
        told_placed s host k poll spread number version short there fits

    version_kept_placed : (s : Server) (k : ℕ) (version : Version) (short : List Bool) (phase : PhaseRecord) → Fits s.phase →
        Placed m (version_kept_received (always db) m s now k version short phase)
    version_kept_placed s k version short NoPhase fits = rests s fits
    version_kept_placed s k version short (Poll poll) fits = rests s fits
    version_kept_placed s k version short (Fetch poll best from) fits = rests s fits
    version_kept_placed s k version short (Relabel poll) fits = rests s fits
    version_kept_placed s k version short (Send poll spread) fits =
        cond_both (version_eq version s.version) _ _ (Placed m) (λ _. holder_placed s k short fits) (λ _. rests s fits)
    version_kept_placed s k version short (Ready poll spread announced) fits =
        cond_both (version_eq version s.version) _ _ (Placed m) (λ _. holder_placed s k short fits) (λ _. rests s fits)

  -- ---- pieces

  next_sent_placed : (s : Server) (host : Host) (poll : Polled) (version : Version) (next : ℕ) (f : Option Flight) →
      HasPlace m.hosts host → Fits s.phase → Placed m (next_sent m s host poll version next f)
  next_sent_placed s host poll version next None there fits =
      cond_both (version_eq version s.version && nat_lt next (length s.image)) _ _ (Placed m)
      (λ _. shows_placed m inside s _ fits (one_placed m inside host _ there)) (λ _. rests s fits)
  next_sent_placed s host poll version next (Some f) there fits = rests s fits

  piece_kept_placed : (s : Server) (host : Host) (version : Version) (next : ℕ) (phase : PhaseRecord) → HasPlace m.hosts host →
      Fits s.phase → Placed m (piece_kept_received m s host version next phase)
  piece_kept_placed s host version next NoPhase there fits = rests s fits
  piece_kept_placed s host version next (Poll poll) there fits = rests s fits
  piece_kept_placed s host version next (Fetch poll best k) there fits = rests s fits
  piece_kept_placed s host version next (Relabel poll) there fits = rests s fits
  piece_kept_placed s host version next (Send poll spread) there fits = next_sent_placed s host poll version next s.flight there fits
  piece_kept_placed s host version next (Ready poll spread announced) there fits =
      next_sent_placed s host poll version next s.flight there fits

  fetch_placed : (s : Server) (poll : Polled) (best : Version) (from : ℕ) (text : Option ReceivedText) → IsPollOf (cell_size m) poll →
      from < cell_size m → Fits s.phase → Placed m (fetch_went_on m s now poll best from text)
  fetch_placed s poll best from None is there fits = rests s fits
  fetch_placed s poll best from (Some text) is there fits =
      cond_both (is_whole text) _ _ (Placed m)
      (λ _. follows m (fetch_installed s best text.bytes) (λ after. relabelled m after poll now)
      (cond_both (version_lt s.version best) _ _ (Placed m) (λ _. record { phase = fits; shown = tt }) (λ _. rests s fits))
      (λ _. relabelled_placed (fetch_installed s best text.bytes).server poll is))
      (λ _. record {
        phase = fits;
        shown =
            one_placed m inside (host_at m.hosts from) (body.GetPiece poll.number best (length text.bytes)) (host_placed m.hosts from there);
      })

  piece_placed : (s : Server) (k number : ℕ) (version : Version) (total at : ℕ) (bytes : List ℕ) (phase : PhaseRecord) → Fits phase →
      Fits s.phase → Placed m (piece_received m s now k number version total at bytes phase)
  piece_placed s k number version total at bytes NoPhase is fits = rests s fits
  piece_placed s k number version total at bytes (Poll poll) is fits = rests s fits
  piece_placed s k number version total at bytes (Fetch poll best from) is fits =
      cond_both (k == from && number == poll.number && version_eq version best) _ _ (Placed m)
      (λ _. fetch_placed s poll best from (text_with (bytes_received s.received == 0) k version total at bytes s.received) is.0 is.1 fits)
      (λ _. rests s fits)
  piece_placed s k number version total at bytes (Relabel poll) is fits = rests s fits
  piece_placed s k number version total at bytes (Send poll spread) is fits = rests s fits
  piece_placed s k number version total at bytes (Ready poll spread announced) is fits = rests s fits

  -- ---- the receiver

  module _ (host : Host) (there : HasPlace m.hosts host) where
    keeps : (s : Server) → Fits s.phase → Placed m (answers_version_kept m host s)
    keeps s fits = shows_placed m inside s _ fits (one_placed m inside host (body.VersionKept s.version) there)

    tells : (s : Server) (poll : ℕ) → Fits s.phase → Placed m (answers_version_is m host poll s)
    tells s poll fits = shows_placed m inside s _ fits (one_placed m inside host (body.VersionIs poll s.version) there)

    version_set_placed : (s : Server) (poll : ℕ) (old new : Version) → Fits s.phase → Placed m (set_version_received m s host poll old new)
    version_set_placed s poll old new fits =
        cond_both (is_sending s.phase) _ _ (Placed m) (λ _. rests s fits)
        (λ _. cond_both (version_eq s.version new) _ _ (Placed m) (λ _. keeps s fits)
        (λ _. cond_both (version_eq s.version old && version_lt old new) _ _ (Placed m)
        (λ _. follows m (relabelled_by s new) (answers_version_kept m host) (record { phase = fits; shown = tt })
        (λ after. keeps (relabelled_by s new).server after))
        (λ _. tells s poll fits)))

    text_placed : (s : Server) (poll : ℕ) (text : Option ReceivedText) → Fits s.phase → Placed m (text_went_on m s host poll text)
    text_placed s poll None fits = rests s fits
    text_placed s poll (Some text) fits =
        cond_both (is_whole text) _ _ (Placed m)
        (λ _. follows m (installed s text.version text.bytes) (answers_version_kept m host) (record { phase = fits; shown = tt })
        (λ after. keeps (installed s text.version text.bytes).server after))
        (λ _. record { phase = fits; shown = one_placed m inside host (body.PieceKept poll text.version (length text.bytes)) there })

    piece_taken_placed : (s : Server) (k poll : ℕ) (version : Version) (total at : ℕ) (bytes : List ℕ) → Fits s.phase →
        Placed m (send_piece_received m s host k poll version total at bytes)
    piece_taken_placed s k poll version total at bytes fits =
        cond_both (is_sending s.phase || is_fetch s.phase) _ _ (Placed m) (λ _. rests s fits)
        (λ _. cond_both (version_eq s.version version) _ _ (Placed m) (λ _. keeps s fits)
        (λ _. cond_both (version_lt version s.version) _ _ (Placed m) (λ _. tells s poll fits)
        (λ _. text_placed s poll (text_with true k version total at bytes s.received) fits)))

    begin_placed : (s : Server) (old new : Version) (pieces len : ℕ) → Fits s.phase → Placed m (begin_received s old new pieces len)
    begin_placed s old new pieces len fits =
        cond_both (is_sending s.phase) _ _ (Placed m) (λ _. rests s fits)
        (λ _. cond_both (version_eq s.version old && version_lt old new && nat_le pieces MAX_PIECES) _ _ (Placed m)
        (λ _. record { phase = fits; shown = tt }) (λ _. rests s fits))

    taken_placed : (s : Server) (new : Version) (changes : Option (List Change)) → Fits s.phase →
        Placed m (write_taken m s host new changes)
    taken_placed s new None fits = rests s fits
    taken_placed s new (Some changes) fits =
        cond_both (is_none (too_large 0 (length s.image) changes)) _ _ (Placed m)
        (λ _. follows m (committed_by s new changes) (answers_version_kept m host) (record { phase = fits; shown = tt })
        (λ after. keeps (committed_by s new changes).server after))
        (λ _. rests s fits)

    commit_placed : (s : Server) (old new : Version) → Fits s.phase → Placed m (commit_received m s host old new)
    commit_placed s old new fits =
        cond_both (is_sending s.phase) _ _ (Placed m) (λ _. rests s fits)
        (λ _. cond_both (version_eq s.version new) _ _ (Placed m) (λ _. keeps s fits)
        (λ _. cond_both (version_eq s.version old) _ _ (Placed m) (λ _. taken_placed s new (whole_write new s.kept) fits)
        (λ _. rests s fits)))

    piece_asked_placed : (s : Server) (poll : ℕ) (version : Version) (at : ℕ) → Fits s.phase →
        Placed m (get_piece_received m s host poll version at)
    piece_asked_placed s poll version at fits =
        cond_both (version_eq s.version version && (at == 0 || nat_lt at (length s.image))) _ _ (Placed m)
        (λ _. shows_placed m inside s _ fits (one_placed m inside host _ there)) (λ _. tells s poll fits)

    from_placed : (db : Database) (s : Server) (k : ℕ) (b : Body) (short : List Bool) → Fits s.phase →
        Placed m (received_from (always db) m s now host k b short)
    from_placed db s k (body.Beacon start claim ready version) short fits = record { phase = fits; shown = one_placed m inside host _ there }
    from_placed db s k (body.Vote start granted) short fits = record { phase = fits; shown = tt }
    from_placed db s k (body.GetVersion poll) short fits = tells s poll fits
    from_placed db s k (body.VersionIs poll version) short fits =
        version_is_placed db s host k poll version short s.phase there fits fits
    from_placed db s k (body.GetPiece poll version offset) short fits = piece_asked_placed s poll version offset fits
    from_placed db s k (body.Piece poll version total offset bytes) short fits =
        piece_placed s k poll version total offset bytes s.phase fits fits
    from_placed db s k (body.SendPiece poll version total offset bytes) short fits =
        piece_taken_placed s k poll version total offset bytes fits
    from_placed db s k (body.PieceKept poll version next) short fits = piece_kept_placed s host version next s.phase there fits
    from_placed db s k (body.SetVersion poll old new) short fits = version_set_placed s poll old new fits
    from_placed db s k (body.Begin old new pieces len) short fits = begin_placed s old new pieces len fits
    from_placed db s k (body.PutPiece new number bytes) short fits =
        cond_both (is_sending s.phase) _ _ (Placed m) (λ _. rests s fits) (λ _. record { phase = fits; shown = tt })
    from_placed db s k (body.Commit old new) short fits = commit_placed s old new fits
    from_placed db s k (body.Abort new) short fits =
        cond_both (is_sending s.phase) _ _ (Placed m) (λ _. rests s fits) (λ _. record { phase = fits; shown = tt })
    from_placed db s k (body.VersionKept version) short fits = version_kept_placed db s k version short s.phase fits

  -- ---- every event

  packet_placed : (db : Database) (s : Server) (p : Packet) (short : List Bool) (place : Option ℕ) → place_of m.hosts p.from ≡ place →
      Fits s.phase → Placed m (received_packet (always db) m s now p short place)
  packet_placed db s p short None at fits = rests s fits
  packet_placed db s p short (Some k) at fits = from_placed p.from (ap is_some at) db s k p.body short fits

  beacon_placed : (s : Server) → Fits s.phase → Placed m (beacon_turn m s now)
  beacon_placed s fits =
      cond_both (beacon_is_due s.votes now m.me (leased m s now)) _ _ (Placed m)
      (λ _. record { phase = fits; shown = each_placed m inside (λ k. own_beacon s now (leased m s now) ∷ []) }) (λ _. rests s fits)

  handled_placed : (db : Database) (s : Server) (e : NodeEvent) (short : List Bool) → Fits s.phase → Placed m (handled (always db) m s now e short)
  handled_placed db s (event.Packet p) short fits = packet_placed db s p short (place_of m.hosts p.from) refl fits
  handled_placed db s event.BeaconTurn short fits = beacon_placed s fits
  handled_placed db s event.RecoverTurn short fits = recovered_placed s s.phase fits fits
  handled_placed db s (event.Ask id call) short fits = asked_placed m inside db now s fits id call (is_short short) (db.writes call)

  lapse_placed : (s : Server) (f : Option Flight) → Fits s.phase → Placed m (write_lapsed m s now f)
  lapse_placed s None fits = rests s fits
  lapse_placed s (Some f) fits =
      cond_both (nat_lt (f.began + SMALLTIME) now) _ _ (Placed m)
      (λ _. record {
        phase = new_poll_placed m inside (without_writes s) now;
        shown =
            placed_append m.hosts (writes_refused m s now phases.Poll) (sends_to_each m (λ k. body.Abort s.version ∷ []))
            (refused_placed m s now phases.Poll) (each_placed m inside (λ k. body.Abort s.version ∷ []));
      })
      (λ _. rests s fits)

  lapsed_placed : (s : Server) → Fits s.phase → Placed m (lapsed m s now)
  lapsed_placed s fits =
      cond_both (leased m s now) _ _ (Placed m) (λ _. lapse_placed s s.flight fits)
      (λ _. record { phase = tt; shown = refused_placed m s now phases.None })

  step_placed : (db : Database) (s : Server) (e : NodeEvent) (short : List Bool) → Fits s.phase → Placed m (step_of db m s now e short)
  unfolding step_by
  step_placed db s e short fits =
      follows m (lapsed m s now) (λ after. handled (always db) m after now e (short_after (lapsed m s now).shown short)) (lapsed_placed s fits)
      (λ after. handled_placed db (lapsed m s now).server e (short_after (lapsed m s now).shown short) after)

pub packets_have_places : PacketsHavePlaces
packets_have_places = record {
  first = λ servers d now. tt;
  steps = λ db m s now e short inside fits. placed_step m (step_of db m s now e short) (step_placed m inside now db s e short fits);
}
