-- Each event that a server without a write takes keeps it so.
use Rattle.std.proofs.Common.{Bool, true, false, true≢false, cond, ◌==◌, ◌≡◌, ℕ, zero, suc, ◌<◌, List, [], ◌∷◌, length, refl, sym, ap, subst, ◌∙◌, arith}
use Rattle.std.proofs.lemmas.Bool.{cond_both}
use Rattle.std.specs.Prelude.{Option, Some, None, ◌&&◌, ◌||◌, nat_lt}
use Rattle.ubik_types.specs.declared.hosts.Host.{Host}
use Rattle.ubik_types.specs.declared.images.Change.{Change}
use Rattle.ubik_types.specs.declared.phases.Phase.TheVariants as phases
use Rattle.ubik_types.specs.declared.phases.Applied.TheVariants as applied
use Rattle.ubik_types.specs.declared.versions.TheConstants.{MAX_COUNTER}
use Rattle.ubik_types.specs.declared.versions.Version.{Version}
use Rattle.ubik_types.specs.Logged.{too_large}
use Rattle.ubik_types.specs.Moment.{IsMoment}
use Rattle.ubik_types.specs.Phase.{PhaseRecord, NoPhase, Poll, Fetch, Relabel, Send, Ready}
use Rattle.ubik_types.specs.Version.{IsVersion, version_lt, version_eq}
use Rattle.ubik_types.specs.Votes.{beacon_is_due, answers_yes, sync_heard}
use Rattle.ubik_calls.specs.declared.packets.Packet.{Packet}
use Rattle.ubik_calls.specs.declared.packets.Body.{Body}
use Rattle.ubik_calls.specs.declared.packets.Body.TheVariants as body
use Rattle.ubik_calls.specs.declared.replies.Reply.{Reply}
use Rattle.ubik_calls.specs.declared.replies.Reply.TheVariants as reply
use Rattle.db_image.specs.declared.services.CallReply.{CallReply}
use Rattle.db_image.specs.declared.services.CallReply.TheVariants as call_reply
use Rattle.db_image.specs.Database.{Database, changes_of}
use Rattle.cell_model.specs.declared.events.NodeEvent.{NodeEvent}
use Rattle.cell_model.specs.declared.events.NodeEvent.TheVariants as event
use Rattle.cell_model.specs.declared.events.Output.TheVariants as output
use Rattle.cell_model.specs.Asks.{read_reply, read, write_asked, served, allows_reads, not_served, asked_elsewhere, asked_as}
use Rattle.cell_model.specs.Durable.{Received}
use Rattle.cell_model.specs.Durable as durables
use Rattle.cell_model.specs.Evaluating.{always}
use Rattle.cell_model.specs.Lapse.{no_quorum, writes_refused, without_writes, write_lapsed, waiting_refused}
use Rattle.cell_model.specs.Node.{Server, ReceivedText, Flight, Waiting}
use Rattle.cell_model.specs.NodeRule.{place_of, received_from, received_packet, handled, step_of, step_by}
use Rattle.cell_model.specs.Pieces.{piece_from}
use Rattle.cell_model.specs.Receiver.{is_sending, answers_version_kept, answers_version_is, relabelled_by, set_version_received, text_went_on}
use Rattle.cell_model.specs.Receiver.{send_piece_received, get_piece_received}
use Rattle.cell_model.specs.Recovery.{is_whole, installed, text_with}
use Rattle.cell_model.specs.Step.{Member, cell_size, Basis, Announced_image, Beacon_image, Evaluation, Shown, Stepped, quiet, showing, followed}
use Rattle.cell_model.specs.Step.{leased, is_ready, is_fetch, told_version, with_phase, with_database, refusing, is_short, short_after}
use Rattle.cell_model.specs.Voters.{IsOkOf, AsksNoOther}
use Rattle.cell_model.specs.Voting.{own_beacon, beacon_turn, beacon_taken, beacon_received, vote_received}
use Rattle.cell_model.specs.Writes.{announced_image, next_version, written_in, written_small, written_within, turned, last_counter}
use Rattle.cell_laws.proofs.Parts.{and_both}
use Rattle.cell_model.proofs.StepKinds.{one_of, none_refused}
use Rattle.cell_places.proofs.Hosts.{HasPlace}
use Rattle.recovery_laws.specs.HasNoWrite.{IsPhaseOf, IsReceived, HasNoWrite, IsRecoveryBody, IsRecoveryPacket, IsTaken}
use Rattle.recovery_laws.proofs.Facts.{IsLaterText, above_first, next_is, next_later, not_first, text_later, told_is, phase_is, database_is, received_is}
use Rattle.recovery_laws.proofs.Facts.{text_is, piece_short}
use Rattle.recovery_laws.proofs.Facts.{version_body, kept_body}
use Rattle.recovery_laws.proofs.Goes.{Goes, AllFine, one_fine, each_fine, turns, shows, rests, makes, follows, before, within}
use Rattle.recovery_laws.proofs.Recovering.{polling_is, recovered_goes, version_is_goes, version_kept_goes, piece_kept_goes, installed_goes}
use Rattle.recovery_laws.proofs.Recovering.{piece_received_goes}

-- ---- packets, and turns

module _ (m : Member) (now : ℕ) (e : NodeEvent) (inside : m.me < cell_size m) (moment : IsMoment now) where
  abbrev Good : Server → Type 0
  Good s = HasNoWrite (cell_size m) s

  -- the server says which version it has
  kept_goes : (most : ℕ) (s : Server) (host : Host) → HasPlace m.hosts host → Good s → Goes most m e s (answers_version_kept m host s)
  kept_goes most s host there good =
      shows m e most s _ good (one_fine m e inside host (body.VersionKept s.version) there (kept_body s.version good.version))

  tells_goes : (most : ℕ) (s : Server) (host : Host) (poll : ℕ) → HasPlace m.hosts host → Good s →
      Goes most m e s (answers_version_is m host poll s)
  tells_goes most s host poll there good =
      shows m e most s _ good (one_fine m e inside host (body.VersionIs poll s.version) there (version_body poll s.version good.version))

  version_set_goes : (s : Server) (host : Host) (poll : ℕ) (old new : Version) → IsVersion new → HasPlace m.hosts host → Good s →
      Goes 1 m e s (set_version_received m s host poll old new)
  version_set_goes s host poll old new is there good =
      cond_both (is_sending s.phase) _ _ (Goes 1 m e s) (λ _. rests m e 1 s good)
      (λ _. cond_both (version_eq s.version new) _ _ (Goes 1 m e s) (λ _. kept_goes 1 s host there good)
      (λ _. cond_both (version_eq s.version old && version_lt old new) _ _ (Goes 1 m e s)
      (λ rises. follows m e 1 0 s (relabelled_by s new) (answers_version_kept m host)
      (makes m e s (with_database s new s.image) (record { call = durables.Relabel new; reason = Received }) [] refl
      (record { version = is; later = above_first old new (and_both (version_eq s.version old) (version_lt old new) rises).1 }) tt
      (database_is (cell_size m) s new s.image is good) tt)
      (λ after. kept_goes 0 (with_database s new s.image) host there after))
      (λ _. tells_goes 1 s host poll there good)))

  text_goes : (s : Server) (host : Host) (poll : ℕ) (text : Option ReceivedText) → IsReceived text → IsLaterText text → HasPlace m.hosts host →
      Good s → Goes 1 m e s (text_went_on m s host poll text)
  text_goes s host poll None is later there good = rests m e 1 s good
  text_goes s host poll (Some text) is later there good =
      cond_both (is_whole text) _ _ (Goes 1 m e s)
      (λ _. follows m e 1 0 s (installed s text.version text.bytes) (answers_version_kept m host)
      (installed_goes m now e inside moment s text.version text (record { version = is.version; later = later }) is good)
      (λ after. kept_goes 0 (with_database s text.version text.bytes) host there after))
      (λ _. turns m e 1 s (record s { received = Some text }) _ refl (received_is (cell_size m) s text is good)
      (one_fine m e inside host (body.PieceKept poll text.version (length text.bytes)) there
      (record { kind = tt; bounded = (tt, (is.version, (tt, tt))) })))

  piece_taken_goes : (s : Server) (host : Host) (k poll : ℕ) (version : Version) (total at : ℕ) (bytes : List ℕ) → IsVersion version →
      HasPlace m.hosts host → Good s → Goes 1 m e s (send_piece_received m s host k poll version total at bytes)
  piece_taken_goes s host k poll version total at bytes is there good =
      cond_both (is_sending s.phase || is_fetch s.phase) _ _ (Goes 1 m e s) (λ _. rests m e 1 s good)
      (λ _. cond_both (version_eq s.version version) _ _ (Goes 1 m e s) (λ _. kept_goes 1 s host there good)
      (λ other. cond_both (version_lt version s.version) _ _ (Goes 1 m e s) (λ _. tells_goes 1 s host poll there good)
      (λ not_lower. text_goes s host poll (text_with true k version total at bytes s.received)
      (text_is true k version total at bytes s.received is good.received)
      (text_later true k version total at bytes s.received (not_first s.version version other not_lower)) there good)))

  piece_asked_goes : (s : Server) (host : Host) (poll : ℕ) (version : Version) (at : ℕ) → IsVersion version → HasPlace m.hosts host →
      Good s → Goes 1 m e s (get_piece_received m s host poll version at)
  piece_asked_goes s host poll version at is there good =
      cond_both (version_eq s.version version && (at == 0 || nat_lt at (length s.image))) _ _ (Goes 1 m e s)
      (λ _. shows m e 1 s _ good
      (one_fine m e inside host (body.Piece poll version (length s.image) at (piece_from s.image at)) there
      (record { kind = tt; bounded = (tt, (is, (tt, (tt, (piece_short s.image at, tt))))) })))
      (λ _. tells_goes 1 s host poll there good)

  beacon_goes : (s : Server) (host : Host) (k start : ℕ) (claim ready : Bool) (version : Version) → HasPlace m.hosts host → Good s →
      Goes 2 m e s (beacon_received m s now host k start claim ready version)
  beacon_goes s host k start claim ready version there good =
      turns m e 2 s (beacon_received m s now host k start claim ready version).server _ refl
      (record {
        version = good.version;
        phase = good.phase;
        received = good.received;
        kept = good.kept;
        flight = good.flight;
        waiting = good.waiting;
      })
      (one_fine m e inside host (body.Vote start (answers_yes s.votes now k claim)) there
      (record { kind = tt; bounded = (tt, (tt, tt)) }))

  vote_goes : (s : Server) (k start : ℕ) (granted : Bool) → Good s → Goes 2 m e s (vote_received m s k start granted)
  vote_goes s k start granted good =
      turns m e 2 s (vote_received m s k start granted).server [] refl
      (record {
        version = good.version;
        phase = good.phase;
        received = good.received;
        kept = good.kept;
        flight = good.flight;
        waiting = good.waiting;
      }) tt

  module _ (db : Database) where
    from_goes : (s : Server) (host : Host) (k : ℕ) (b : Body) (short : List Bool) → IsRecoveryBody b → HasPlace m.hosts host → Good s →
        Goes 2 m e s (received_from (always db) m s now host k b short)
    from_goes s host k (body.Beacon start claim ready version) short is there good =
        beacon_goes s host k start claim ready version there good
    from_goes s host k (body.Vote start granted) short is there good = vote_goes s k start granted good
    from_goes s host k (body.GetVersion poll) short is there good = tells_goes 2 s host poll there good
    from_goes s host k (body.VersionIs poll version) short is there good =
        within m e 1 2 s _ (omega arith)
        (version_is_goes m now e inside moment db s host k poll version short s.phase there is.bounded.1.0 good.phase good)
    from_goes s host k (body.GetPiece poll version offset) short is there good =
        within m e 1 2 s _ (omega arith) (piece_asked_goes s host poll version offset is.bounded.1.0 there good)
    from_goes s host k (body.Piece poll version total offset bytes) short is there good =
        piece_received_goes m now e inside moment s k poll version total offset bytes s.phase is.bounded.1.0 good.phase good
    from_goes s host k (body.SendPiece poll version total offset bytes) short is there good =
        within m e 1 2 s _ (omega arith) (piece_taken_goes s host k poll version total offset bytes is.bounded.1.0 there good)
    from_goes s host k (body.PieceKept poll version next) short is there good =
        within m e 0 2 s _ (omega arith) (piece_kept_goes m now e inside moment s host version next s.phase there good)
    from_goes s host k (body.SetVersion poll old new) short is there good =
        within m e 1 2 s _ (omega arith) (version_set_goes s host poll old new is.bounded.1.1.0 there good)
    from_goes s host k (body.Begin old new pieces len) short is there good = absurd is.kind
    from_goes s host k (body.PutPiece new number bytes) short is there good = absurd is.kind
    from_goes s host k (body.Commit old new) short is there good = absurd is.kind
    from_goes s host k (body.Abort new) short is there good = absurd is.kind
    from_goes s host k (body.VersionKept version) short is there good =
        within m e 0 2 s _ (omega arith) (version_kept_goes m now e inside moment db s k version short s.phase good)

    packet_goes : (s : Server) (p : Packet) (short : List Bool) (place : Option ℕ) → IsRecoveryPacket m.hosts p → Good s →
        Goes 2 m e s (received_packet (always db) m s now p short place)
    packet_goes s p short None is good = rests m e 2 s good
    packet_goes s p short (Some k) is good = from_goes s p.from k p.body short is.body is.sender good

  own_beacon_is : (s : Server) (claim : Bool) → Good s → IsRecoveryBody (own_beacon s now claim)
  own_beacon_is s claim good = record { kind = tt; bounded = (tt, (tt, (tt, (told, tt)))) }
    where
      told : IsVersion (cond (claim && is_ready s.phase) (told_version s.phase s.version) s.version)
      told =
          cond_both (claim && is_ready s.phase) (told_version s.phase s.version) s.version IsVersion
          (λ _. told_is (cell_size m) s.phase s.version good.phase good.version) (λ _. good.version)

  beacon_turn_goes : (s : Server) → Good s → Goes 2 m e s (beacon_turn m s now)
  beacon_turn_goes s good =
      cond_both (beacon_is_due s.votes now m.me (leased m s now)) _ _ (Goes 2 m e s)
      (λ _. turns m e 2 s (beacon_taken m s now (leased m s now)).server _ refl
      (record {
        version = good.version;
        phase = good.phase;
        received = good.received;
        kept = good.kept;
        flight = good.flight;
        waiting = good.waiting;
      })
      (each_fine m e inside (λ k. own_beacon s now (leased m s now) ∷ []) (λ k. (own_beacon_is s (leased m s now) good, tt))))
      (λ _. rests m e 2 s good)

-- ---- calls

module _ (m : Member) (s : Server) (now : ℕ) (good : HasNoWrite (cell_size m) s) (db : Database) (id : ℕ) (call : List ℕ) where
  abbrev Asked : Stepped → Type 0
  Asked t = Goes 2 m (event.Ask id call) s t

  one_reply : (r : Reply) (evaluation : Option Evaluation) →
      ((other : List ℕ) → AsksNoOther (event.Ask id call) other → IsOkOf other (output.Reply id r) evaluation) →
      Asked (showing s (record { output = output.Reply id r; evaluation = evaluation } ∷ []))
  one_reply r evaluation fine = shows m (event.Ask id call) 2 s _ good (fine, tt)

  pub refused_goes : (r : Reply) → ((other : List ℕ) → IsOkOf other (output.Reply id r) None) → Asked (showing s (refusing id r ∷ []))
  refused_goes r fine = one_reply r None (λ other _. fine other)

  pub answer_goes : (basis : Basis) (r : CallReply) →
      Asked (showing s (read_reply id (record { call = call; moment = now; basis = basis }) r ∷ []))
  answer_goes basis (call_reply.Done answer) =
      one_reply (reply.Ok answer) (Some (record { call = call; moment = now; basis = basis })) (λ other is. is)
  answer_goes basis (call_reply.Rule number) =
      one_reply (reply.Rule number) (Some (record { call = call; moment = now; basis = basis })) (λ other is. tt)
  answer_goes basis call_reply.Malformed = refused_goes reply.Malformed (λ other. tt)
  answer_goes basis (call_reply.BadRecord at) = refused_goes (reply.BadRecord at) (λ other. tt)

  read_goes : (image : List ℕ) (basis : Basis) (short : Bool) → Asked (read db s now id call image basis short)
  read_goes image basis true = refused_goes reply.NoMemory (λ other. tt)
  read_goes image basis false = answer_goes basis (db.call image now call).reply

  unserved_goes : (heard : Option (ℕ × ℕ)) → Asked (showing s (refusing id (not_served m s now heard) ∷ []))
  unserved_goes None = refused_goes _ (λ other. tt)
  unserved_goes (Some heard) =
      cond_both (heard.0 == m.me) _ _ (λ r. Asked (showing s (refusing id r ∷ [])))
      (λ _. refused_goes _ (λ other. tt)) (λ _. refused_goes _ (λ other. tt))

  elsewhere_goes : (writes short may_read : Bool) → Asked (asked_elsewhere db m s now id call writes short may_read)
  elsewhere_goes true short may_read = unserved_goes (sync_heard now s.votes)
  elsewhere_goes false short true = read_goes s.image (Beacon_image s.version) short
  elsewhere_goes false short false = unserved_goes (sync_heard now s.votes)

  -- a call that writes at a ready server is the matter of a cell of one
  module _ (written : db.writes call ≡ Some true → is_ready s.phase ≡ true → (short : Bool) →
      Asked (write_asked db m s now id call short s.flight)) where
    served_goes : (writes short : Bool) → db.writes call ≡ Some writes → is_ready s.phase ≡ true →
        Asked (served db m s now id call writes short)
    served_goes true short is ready = written is ready short
    served_goes false short is ready = read_goes (announced_image s) (Announced_image (told_version s.phase s.version)) short

    pub asked_goes : (short : Bool) (o : Option Bool) → db.writes call ≡ o → Asked (asked_as db m s now id call short o)
    asked_goes short None is = refused_goes reply.Malformed (λ other. tt)
    asked_goes short (Some writes) is =
        cond_both (leased m s now) _ _ Asked
        (λ _. cond_both (is_ready s.phase) _ _ Asked (served_goes writes short is) (λ _. refused_goes _ (λ other. tt)))
        (λ _. elsewhere_goes writes short (allows_reads s.version now s.beacon))

-- ---- writes in a cell of one

module _ (host : Host) (s : Server) (now : ℕ) (moment : IsMoment now) (good : HasNoWrite 1 s) (db : Database) (id : ℕ) (call : List ℕ) where
  abbrev Alone : Stepped → Type 0
  Alone t = Goes 2 (one_of host) (event.Ask id call) s t

  refusal : (r : Reply) → ((other : List ℕ) → IsOkOf other (output.Reply id r) None) → Alone (showing s (refusing id r ∷ []))
  refusal r fine = refused_goes (one_of host) s now good db id call r fine

  rested : Alone (quiet s)
  rested = rests (one_of host) (event.Ask id call) 2 s good

  committed_goes : (answer image : List ℕ) (changes : List Change) (phase : PhaseRecord) → IsPhaseOf 1 phase →
      (s.version.counter == MAX_COUNTER) ≡ false → too_large 0 (length s.image) changes ≡ None →
      Alone (written_in (one_of host) s now id call answer image changes phase)
  committed_goes answer image changes NoPhase is counter small = rested
  committed_goes answer image changes (Poll poll) is counter small = rested
  committed_goes answer image changes (Fetch poll best from) is counter small = rested
  committed_goes answer image changes (Relabel poll) is counter small = rested
  committed_goes answer image changes (Send poll spread) is counter small = rested
  committed_goes answer image changes (Ready poll spread announced) is counter small =
      let next : IsVersion (next_version s.version) = next_is s.version counter good.version in
      record {
        server = record {
          version = next;
          phase = (is.0, is.1, next);
          received = cond_both (is_fetch s.phase) None None IsReceived (λ _. tt) (λ _. tt);
          kept = refl;
          flight = refl;
          waiting = good.waiting;
        };
        shown = (tt, ((λ other is. is), tt));
        fits = ((record { version = next; later = next_later s.version }, small), tt);
        leads = refl;
        few = omega arith;
        own = (tt, tt);
      }

  last_goes : Alone (last_counter (one_of host) s now id)
  last_goes =
      turns (one_of host) (event.Ask id call) 2 s (last_counter (one_of host) s now id).server _ refl
      (polling_is (one_of host) now (event.Ask id call) (omega arith) moment (record s { waiting = [] })
      (record {
        version = good.version;
        phase = good.phase;
        received = good.received;
        kept = good.kept;
        flight = good.flight;
        waiting = refl;
      }))
      ((λ other is. tt), none s.waiting good.waiting)
    where
      none : (waiting : List Waiting) → waiting ≡ [] →
          AllFine (one_of host) (event.Ask id call) (waiting_refused waiting (no_quorum (one_of host) s now phases.Poll applied.No))
      none [] is = tt
      none (w ∷ waiting) is = absurd (cc)

  small_goes : (answer image : List ℕ) (changes : List Change) → too_large 0 (length s.image) changes ≡ None →
      Alone (written_small (one_of host) s now id call answer image changes)
  small_goes answer image [] small =
      answer_goes (one_of host) s now good db id call (Announced_image (told_version s.phase s.version)) (call_reply.Done answer)
  small_goes answer image (change ∷ changes) small =
      cond_both (s.version.counter == MAX_COUNTER) _ _ Alone (λ _. last_goes)
      (λ counter. committed_goes answer image (change ∷ changes) s.phase good.phase counter small)

  within_goes : (answer image : List ℕ) (changes : List Change) (passed : Option ℕ) → too_large 0 (length s.image) changes ≡ passed →
      Alone (written_within (one_of host) s now id call answer image changes passed)
  within_goes answer image changes None is = small_goes answer image changes is
  within_goes answer image changes (Some bytes) is = refusal (reply.TooLarge bytes) (λ other. tt)

  turned_goes : (image : List ℕ) (r : CallReply) → Alone (turned db (one_of host) s now id call image r)
  turned_goes image (call_reply.Done answer) =
      within_goes answer image (changes_of db s.image image) (too_large 0 (length s.image) (changes_of db s.image image)) refl
  turned_goes image (call_reply.Rule number) =
      answer_goes (one_of host) s now good db id call (Announced_image (told_version s.phase s.version)) (call_reply.Rule number)
  turned_goes image call_reply.Malformed = refusal reply.Malformed (λ other. tt)
  turned_goes image (call_reply.BadRecord at) = refusal (reply.BadRecord at) (λ other. tt)

  pub written_goes : (short : Bool) (f : Option Flight) → f ≡ None → Alone (write_asked db (one_of host) s now id call short f)
  written_goes true None is = refusal reply.NoMemory (λ other. tt)
  written_goes false None is = turned_goes (db.call s.image now call).image (db.call s.image now call).reply
  written_goes short (Some f) is = absurd (cc)

-- the cell has one server
written_here : (hosts : List Host) (me : ℕ) (s : Server) (now : ℕ) (db : Database) (id : ℕ) (call : List ℕ) (short : Bool) → IsMoment now →
    me < length hosts → length hosts ≡ 1 → HasNoWrite (length hosts) s →
    Goes 2 (record { hosts = hosts; me = me }) (event.Ask id call) s
    (write_asked db (record { hosts = hosts; me = me }) s now id call short s.flight)
written_here [] me s now db id call short moment inside one good = absurd (omega arith)
written_here (host ∷ []) zero s now db id call short moment inside one good = written_goes host s now moment good db id call short s.flight good.flight
written_here (host ∷ []) (suc me) s now db id call short moment inside one good = absurd (omega arith)
written_here (a ∷ b ∷ hosts) me s now db id call short moment inside one good = absurd (omega arith)

-- ---- steps

module _ (db : Database) (m : Member) (now : ℕ) (inside : m.me < cell_size m) (moment : IsMoment now) where
  handled_goes : (s : Server) (e : NodeEvent) (short : List Bool) → HasNoWrite (cell_size m) s → IsTaken db m s e →
      Goes 2 m e s (handled (always db) m s now e short)
  handled_goes s (event.Packet p) short good taken =
      packet_goes m now (event.Packet p) inside moment db s p short (place_of m.hosts p.from) taken good
  handled_goes s event.BeaconTurn short good taken = beacon_turn_goes m now event.BeaconTurn inside moment s good
  handled_goes s event.RecoverTurn short good taken =
      within m event.RecoverTurn 1 2 s _ (omega arith) (recovered_goes m now event.RecoverTurn inside moment s s.phase good.phase good)
  handled_goes s (event.Ask id call) short good taken =
      asked_goes m s now good db id call
      (λ writes ready short. written_here m.hosts m.me s now db id call short moment inside (taken writes ready) good)
      (is_short short) (db.writes call) refl

  -- what is taken before the lapse is taken after it
  dropped_takes : (s : Server) (e : NodeEvent) → IsTaken db m s e → IsTaken db m (with_phase (without_writes s) NoPhase) e
  dropped_takes s (event.Packet p) taken = taken
  dropped_takes s event.BeaconTurn taken = taken
  dropped_takes s event.RecoverTurn taken = taken
  dropped_takes s (event.Ask id call) taken = λ writes ready. absurd (true≢false (sym ready))

  pub step_goes : (s : Server) (e : NodeEvent) (short : List Bool) → HasNoWrite (cell_size m) s → IsTaken db m s e →
      Goes 2 m e s (step_of db m s now e short)
  unfolding step_by
  step_goes s e short good taken = cond_both (leased m s now) _ _ P (λ _. kept s.flight good.flight) (λ _. lapses)
    where
      P : Stepped → Type 0
      P t = Goes 2 m e s (followed t (λ after. handled (always db) m after now e (short_after t.shown short)))

      again : (u : Server) (t : Stepped) → Goes 2 m e u t → s.version ≡ u.version → s.image ≡ u.image →
          Goes 2 m e s (record { server = t.server; calls = t.calls; shown = t.shown })
      again u t goes version image =
          before m e 2 s u (record { server = t.server; calls = t.calls; shown = t.shown })
          (ap (λ (v : Version). durables.durable v u.image) (sym version) ∙ ap (λ (i : List ℕ). durables.durable s.version i) (sym image))
          (record { server = goes.server; shown = goes.shown; fits = goes.fits; leads = goes.leads; few = goes.few; own = goes.own })

      kept : (f : Option Flight) → f ≡ None → P (write_lapsed m s now f)
      kept None is = again s (handled (always db) m s now e short) (handled_goes s e short good taken) refl refl
      kept (Some f) is = absurd (cc)

      dropped : Server
      dropped = with_phase (without_writes s) NoPhase

      dropped_is : HasNoWrite (cell_size m) dropped
      dropped_is =
          phase_is (cell_size m) (without_writes s) NoPhase tt
          (record {
            version = good.version;
            phase = good.phase;
            received = good.received;
            kept = good.kept;
            flight = refl;
            waiting = refl;
          })

      Q : List Shown → Type 0
      Q shown = P (showing dropped shown)

      lapses : Q (writes_refused m s now phases.None)
      lapses = subst Q (sym (none_refused s.flight s.waiting _ _ good.flight good.waiting))
          (again dropped (handled (always db) m dropped now e short) (handled_goes dropped e short dropped_is (dropped_takes s e taken)) refl refl)
