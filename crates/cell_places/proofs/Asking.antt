-- Holders, writes and asks keep phases placed, and send from host to host of the cell.
use Rattle.std.proofs.Common.{Bool, true, false, ◌==◌, ℕ, ◌<◌, List, [], ◌∷◌, length}
use Rattle.std.proofs.lemmas.Bool.{cond_both}
use Rattle.std.specs.Prelude.{Option, Some, None, nat_le}
use Rattle.lock_table.specs.declared.tables.TheConstants.{MAX_WAITING}
use Rattle.ubik_types.specs.declared.images.Change.{Change}
use Rattle.ubik_types.specs.declared.versions.TheConstants.{MAX_COUNTER}
use Rattle.ubik_types.specs.declared.versions.Version.{Version}
use Rattle.ubik_types.specs.Logged.{too_large}
use Rattle.ubik_types.specs.Phase.{Polled, Spread, PhaseRecord, NoPhase, Poll, Fetch, Relabel, Send, Ready}
use Rattle.ubik_types.specs.Quorum.{is_majority}
use Rattle.db_image.specs.declared.services.CallReply.{CallReply}
use Rattle.db_image.specs.declared.services.CallReply.TheVariants as call_reply
use Rattle.db_image.specs.Database.{Database, changes_of}
use Rattle.cell_model.specs.Asks.{read, write_asked, served, allows_reads, asked_elsewhere, asked_as}
use Rattle.cell_model.specs.Evaluating.{always}
use Rattle.cell_model.specs.Node.{Server, Flight, Waiting}
use Rattle.cell_model.specs.Polls.{new_poll}
use Rattle.cell_model.specs.Step.{Member, cell_size, Basis, Announced_image, Beacon_image, Shown, quiet, showing, leased, is_ready}
use Rattle.cell_model.specs.Step.{told_version, is_short, short_after}
use Rattle.cell_model.specs.Writes.{announced_image, own_write_begun, flight_settled, settled_in, settled, written_in, written_changes}
use Rattle.cell_model.specs.Writes.{written_small, written_within, turned, write_turn, is_free, next_turns, settled_with_turns}
use Rattle.cell_places.specs.Places.{IsPhaseOf, IsPollOf}
use Rattle.cell_places.proofs.Hosts.{length-only}
use Rattle.cell_places.proofs.Placed.{Placed, AllPlaced, follows, each_placed, waiting_placed, reply_placed}

module _ (m : Member) (inside : m.me < cell_size m) where
  abbrev Fits : PhaseRecord → Type 0
  Fits phase = IsPhaseOf (cell_size m) phase

  pub quiet_placed : (s : Server) → Fits s.phase → Placed m (quiet s)
  quiet_placed s is = record { phase = is; shown = tt }

  pub shows_placed : (s : Server) (shown : List Shown) → Fits s.phase → AllPlaced m.hosts shown → Placed m (showing s shown)
  shows_placed s shown is all = record { phase = is; shown = all }

  -- a new poll has a place for each server
  pub new_poll_placed : (s : Server) (now : ℕ) → IsPollOf (cell_size m) (new_poll m s now)
  new_poll_placed s now = length-only (cell_size m) m.me (Some s.version) None

  -- ---- holders

  flight_settled_placed : (s : Server) (poll : Polled) (spread : Spread) (announced : Version) (f : Option Flight) →
      IsPollOf (cell_size m) poll → Fits s.phase → Placed m (flight_settled m s poll spread announced f)
  flight_settled_placed s poll spread announced None is fits = quiet_placed s fits
  flight_settled_placed s poll spread announced (Some f) is fits =
      cond_both (is_majority (cell_size m) spread.holders) _ _ (Placed m) (λ _. record { phase = is; shown = (tt, (tt, tt)) })
      (λ _. quiet_placed s fits)

  settled_in_placed : (s : Server) (phase : PhaseRecord) → Fits phase → Fits s.phase → Placed m (settled_in m s phase)
  settled_in_placed s NoPhase is fits = quiet_placed s fits
  settled_in_placed s (Poll poll) is fits = quiet_placed s fits
  settled_in_placed s (Fetch poll best host) is fits = quiet_placed s fits
  settled_in_placed s (Relabel poll) is fits = quiet_placed s fits
  settled_in_placed s (Send poll spread) is fits =
      cond_both (is_majority (cell_size m) spread.holders) _ _ (Placed m) (λ _. record { phase = is; shown = (tt, tt) })
      (λ _. quiet_placed s fits)
  settled_in_placed s (Ready poll spread announced) is fits = flight_settled_placed s poll spread announced s.flight is fits

  pub settled_placed : (s : Server) → Fits s.phase → Placed m (settled m s)
  settled_placed s fits = settled_in_placed s s.phase fits fits

  -- ---- writes

  module _ (db : Database) (now : ℕ) where
    module _ (s : Server) (fits : IsPhaseOf (cell_size m) s.phase) (id : ℕ) (call : List ℕ) where
      in_placed : (answer image : List ℕ) (changes : List Change) (phase : PhaseRecord) → IsPhaseOf (cell_size m) phase →
          Placed m (written_in m s now id call answer image changes phase)
      in_placed answer image changes NoPhase is = quiet_placed s fits
      in_placed answer image changes (Poll poll) is = quiet_placed s fits
      in_placed answer image changes (Fetch poll best host) is = quiet_placed s fits
      in_placed answer image changes (Relabel poll) is = quiet_placed s fits
      in_placed answer image changes (Send poll spread) is = quiet_placed s fits
      in_placed answer image changes (Ready poll spread announced) is =
          follows m (own_write_begun m s now id call answer image changes poll spread) (settled m)
          (record { phase = is; shown = each_placed m inside _ })
          (λ after. settled_placed (own_write_begun m s now id call answer image changes poll spread).server after)

      changes_placed : (answer image : List ℕ) (changes : List Change) → Placed m (written_changes m s now id call answer image changes)
      changes_placed answer image changes =
          cond_both (s.version.counter == MAX_COUNTER) _ _ (Placed m)
          (λ _. record { phase = new_poll_placed (record s { waiting = [] }) now; shown = (tt, waiting_placed m.hosts s.waiting _) })
          (λ _. in_placed answer image changes s.phase fits)

      small_placed : (answer image : List ℕ) (changes : List Change) → Placed m (written_small m s now id call answer image changes)
      small_placed answer image [] = shows_placed s _ fits (tt, tt)
      small_placed answer image (change ∷ changes) = changes_placed answer image (change ∷ changes)

      within_placed : (answer image : List ℕ) (changes : List Change) (passed : Option ℕ) →
          Placed m (written_within m s now id call answer image changes passed)
      within_placed answer image changes None = small_placed answer image changes
      within_placed answer image changes (Some bytes) = shows_placed s _ fits (tt, tt)

      turned_placed : (image : List ℕ) (r : CallReply) → Placed m (turned db m s now id call image r)
      turned_placed image (call_reply.Done answer) =
          within_placed answer image (changes_of db s.image image) (too_large 0 (length s.image) (changes_of db s.image image))
      turned_placed image (call_reply.Rule number) = shows_placed s _ fits (tt, tt)
      turned_placed image call_reply.Malformed = shows_placed s _ fits (tt, tt)
      turned_placed image (call_reply.BadRecord at) = shows_placed s _ fits (tt, tt)

      turn_placed : (short : Bool) → Placed m (write_turn db m s now id call short)
      turn_placed short =
          cond_both short _ _ (Placed m) (λ _. shows_placed s _ fits (tt, tt))
          (λ _. turned_placed (db.call s.image now call).image (db.call s.image now call).reply)

    next_placed : (waiting : List Waiting) (s : Server) (short : List Bool) → Fits s.phase → Placed m (next_turns (always db) m now waiting s short)
    next_placed [] s short fits = quiet_placed s fits
    next_placed (w ∷ waiting) s short fits =
        cond_both (is_free s) _ _ (Placed m)
        (λ _. follows m (write_turn db m (record s { waiting = waiting }) now w.id w.call (is_short short))
        (λ after. next_turns (always db) m now waiting after
        (short_after (write_turn db m (record s { waiting = waiting }) now w.id w.call (is_short short)).shown short))
        (turn_placed (record s { waiting = waiting }) fits w.id w.call (is_short short))
        (λ after. next_placed waiting (write_turn db m (record s { waiting = waiting }) now w.id w.call (is_short short)).server
        (short_after (write_turn db m (record s { waiting = waiting }) now w.id w.call (is_short short)).shown short) after))
        (λ _. quiet_placed s fits)

    pub turns_placed : (s : Server) (short : List Bool) → Fits s.phase → Placed m (settled_with_turns (always db) m s now short)
    turns_placed s short fits =
        follows m (settled m s) (λ after. next_turns (always db) m now after.waiting after (short_after (settled m s).shown short))
        (settled_placed s fits)
        (λ after. next_placed (settled m s).server.waiting (settled m s).server (short_after (settled m s).shown short) after)

    -- ---- asks

    module _ (s : Server) (fits : IsPhaseOf (cell_size m) s.phase) (id : ℕ) (call : List ℕ) where
      read_placed : (image : List ℕ) (basis : Basis) (short : Bool) → Placed m (read db s now id call image basis short)
      read_placed image basis short =
          cond_both short _ _ (Placed m) (λ _. shows_placed s _ fits (tt, tt))
          (λ _. shows_placed s _ fits
          (reply_placed m.hosts id (record { call = call; moment = now; basis = basis }) (db.call image now call).reply))

      write_placed : (short : Bool) (f : Option Flight) → Placed m (write_asked db m s now id call short f)
      write_placed short None = turn_placed s fits id call short
      write_placed short (Some f) =
          cond_both (nat_le MAX_WAITING (length s.waiting)) _ _ (Placed m) (λ _. shows_placed s _ fits (tt, tt))
          (λ _. cond_both short _ _ (Placed m) (λ _. shows_placed s _ fits (tt, tt)) (λ _. record { phase = fits; shown = tt }))

      served_placed : (writes short : Bool) → Placed m (served db m s now id call writes short)
      served_placed true short = write_placed short s.flight
      served_placed false short = read_placed (announced_image s) (Announced_image (told_version s.phase s.version)) short

      elsewhere_placed : (writes short may_read : Bool) → Placed m (asked_elsewhere db m s now id call writes short may_read)
      elsewhere_placed true short may_read = shows_placed s _ fits (tt, tt)
      elsewhere_placed false short true = read_placed s.image (Beacon_image s.version) short
      elsewhere_placed false short false = shows_placed s _ fits (tt, tt)

      pub asked_placed : (short : Bool) (o : Option Bool) → Placed m (asked_as db m s now id call short o)
      asked_placed short None = shows_placed s _ fits (tt, tt)
      asked_placed short (Some writes) =
          cond_both (leased m s now) _ _ (Placed m)
          (λ _. cond_both (is_ready s.phase) _ _ (Placed m) (λ _. served_placed writes short) (λ _. shows_placed s _ fits (tt, tt)))
          (λ _. elsewhere_placed writes short (allows_reads s.version now s.beacon))
