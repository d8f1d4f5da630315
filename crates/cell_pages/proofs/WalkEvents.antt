-- What each move of a step keeps, each step keeps: the receiver, the lapse and votes, and every event.
use Rattle.std.proofs.Common.{Bool, true, false, cond, ◌==◌, ◌≡◌, ℕ, ◌+◌, List, [], ◌∷◌, length, refl, sym, ap, subst, ◌∙◌}
use Rattle.std.proofs.lemmas.Bool.{cond_both}
use Rattle.std.specs.Prelude.{Option, Some, None, ◌&&◌, ◌||◌, nat_lt, nat_le, is_none}
use Rattle.ubik_types.specs.declared.hosts.Host.{Host}
use Rattle.ubik_types.specs.declared.images.Change.{Change}
use Rattle.ubik_types.specs.declared.limits.TheConstants.{SMALLTIME}
use Rattle.ubik_types.specs.declared.phases.Phase.TheVariants as phases
use Rattle.ubik_types.specs.declared.versions.Version.{Version}
use Rattle.ubik_types.specs.Image.{effect}
use Rattle.ubik_types.specs.Lease.{is_in_lease}
use Rattle.ubik_types.specs.Logged.{logged, too_large}
use Rattle.ubik_types.specs.Phase.{PhaseRecord, NoPhase, Poll}
use Rattle.ubik_types.specs.Version.{version_lt, version_eq}
use Rattle.ubik_calls.specs.declared.packets.TheConstants.{MAX_PIECES}
use Rattle.ubik_calls.specs.declared.packets.Body.{Body}
use Rattle.ubik_calls.specs.declared.packets.Body.TheVariants as body
use Rattle.db_image.specs.Database.{Database}
use Rattle.ubik_calls.specs.declared.packets.Packet.{Packet}
use Rattle.cell_model.specs.declared.events.NodeEvent.{NodeEvent}
use Rattle.cell_model.specs.declared.events.NodeEvent.TheVariants as event
use Rattle.cell_model.specs.Asks.{asked_as}
use Rattle.cell_model.specs.Book.{Book}
use Rattle.cell_model.specs.Durable.{Durable, Made, Own_relabelling, Committed, Received, durable_after, version_after}
use Rattle.cell_model.specs.Durable as durables
use Rattle.cell_model.specs.Evaluating.{always}
use Rattle.cell_model.specs.Lapse.{writes_refused, phase_dropped, write_lapsed, lapsed, without_writes}
use Rattle.cell_model.specs.Node.{Server, ReceivedText, Flight}
use Rattle.cell_model.specs.NodeRule.{received_from, received_packet, place_of, handled, step_of, step_by}
use Rattle.cell_model.specs.Polls.{new_poll}
use Rattle.cell_model.specs.Receiver.{is_sending, answers_version_kept, answers_version_is, relabelled_by, set_version_received}
use Rattle.cell_model.specs.Receiver.{text_went_on, send_piece_received, empty_write, begin_received, kept_with, put_piece_received}
use Rattle.cell_model.specs.Receiver.{committed_by, write_taken, whole_write, commit_received, kept_but, abort_received, get_piece_received}
use Rattle.cell_model.specs.Recovery.{recovered}
use Rattle.cell_model.specs.Recovery.{version_is_received, version_kept_received, piece_kept_received, text_with}
use Rattle.cell_model.specs.Recovery.{is_whole, installed, piece_received}
use Rattle.cell_model.specs.Step.{Member, cell_size, Shown, Stepped, quiet, showing, followed, leased}
use Rattle.cell_model.specs.Step.{is_fetch, with_database, is_short, short_after}
use Rattle.cell_model.specs.Voting.{beacon_turn, beacon_taken, beacon_received, vote_received, own_beacon}
use Rattle.cell_laws.proofs.Parts.{and_both, or_none, no}
use Rattle.cell_pages.specs.Growth.{Grew, durable_of, book_with, Leads}
use Rattle.cell_pages.specs.Moves.{Moves}
use Rattle.cell_pages.specs.Passes.{is_held}
use Rattle.cell_pages.specs.Says.{AllSay}
use Rattle.cell_pages.proofs.Leading.{grew_none, grew_then, leads_append, say_more, say_append, each_says}
use Rattle.cell_pages.proofs.Leading.{refused_says}
use Rattle.cell_pages.proofs.Walk as walk
use Rattle.cell_pages.proofs.WalkRecovery as recovery
use Rattle.cell_pages.proofs.Versions.{not_below, text_is_of}

module _ (db : Database) (m : Member) (now : ℕ) (starts : List (Option ℕ)) (F : Book → Server → Type 0) (D : Book → Durable → Type 0)
    (P : Book → Body → Type 0) (moves : Moves db m now (is_in_lease (cell_size m) starts now) F D P) where
  abbrev in_lease : Bool
  in_lease = is_in_lease (cell_size m) starts now

  abbrev Lease : Type 0
  Lease = is_in_lease (cell_size m) starts now ≡ true

  abbrev Fit : Book → Server → Type 0
  Fit book s = walk.Fit db m now starts F D P moves book s

  abbrev Goes : Book → Server → Stepped → Type 0
  Goes book s t = walk.Goes db m now starts F D P moves book s t

  -- a whole step
  pub record Ends (book : Book) (s : Server) (t : Stepped) : Type 0 where
    pub later : Book
    pub grew : Grew in_lease m.me book later
    pub leads : Leads D in_lease m.me book (durable_of s) t.calls later (durable_of t.server)
    pub keeps : F later t.server
    pub held : is_held t.server.phase ≡ true → Lease
    pub shown : AllSay (P later) t.shown

  either : (book : Book) (s : Server) (test : Bool) (x y : Stepped) → (test ≡ true → Goes book s x) → (test ≡ false → Goes book s y) →
      Goes book s (cond test x y)
  either = walk.either db m now starts F D P moves

  turns : (book : Book) (s u : Server) (shown : List Shown) → durable_of s ≡ durable_of u → Fit book s → Fit book u →
      AllSay (P book) shown → Goes book s (showing u shown)
  turns = walk.turns db m now starts F D P moves

  shows : (book : Book) (s : Server) (shown : List Shown) → Fit book s → AllSay (P book) shown → Goes book s (showing s shown)
  shows = walk.shows db m now starts F D P moves

  rests : (book : Book) (s : Server) → Fit book s → Goes book s (quiet s)
  rests = walk.rests db m now starts F D P moves

  makes : (book later : Book) (s u : Server) (made : Made) (shown : List Shown) → book_with m.me book (durable_of s) made ≡ later →
      durable_after (durable_of s) made.call ≡ durable_of u → Grew in_lease m.me book later → Fit book s → Fit later u →
      AllSay (P later) shown →
      Goes book s (record { server = u; calls = made ∷ []; shown = shown })
  makes = walk.makes db m now starts F D P moves

  follows : (book : Book) (s : Server) (t : Stepped) (next : Server → Stepped) → Goes book s t →
      ((later : Book) → Grew in_lease m.me book later → Fit later t.server → Goes later t.server (next t.server)) →
      Goes book s (followed t next)
  follows = walk.follows db m now starts F D P moves

  asked_as_is : (book : Book) (s : Server) (id : ℕ) (call : List ℕ) (short : Bool) (o : Option Bool) → Fit book s →
      Goes book s (asked_as db m s now id call short o)
  asked_as_is = walk.asked_as_is db m now starts F D P moves

  installed_is : (book : Book) (s : Server) (may_begin : Bool) (k poll : ℕ) (version : Version) (total at : ℕ) (bytes : List ℕ)
      (text : ReceivedText) → P book (body.SendPiece poll version total at bytes) →
      text_with may_begin k version total at bytes s.received ≡ Some text → is_sending s.phase ≡ false → is_whole text ≡ true →
      version_lt s.version text.version ≡ true → Fit book s → Goes book s (installed s text.version text.bytes)
  installed_is = recovery.installed_is db m now starts F D P moves

  texts : (book : Book) (s : Server) (may_begin : Bool) (k poll : ℕ) (version : Version) (total at : ℕ) (bytes : List ℕ)
      (text : ReceivedText) → P book (body.SendPiece poll version total at bytes) →
      text_with may_begin k version total at bytes s.received ≡ Some text → Fit book s → Fit book (record s { received = Some text })
  texts = recovery.texts db m now starts F D P moves

  recovered_is : (book : Book) (s : Server) (phase : PhaseRecord) → s.phase ≡ phase → Fit book s → Goes book s (recovered m s now phase)
  recovered_is = recovery.recovered_is db m now starts F D P moves

  piece_kept_is : (book : Book) (s : Server) (host : Host) (version : Version) (next : ℕ) (phase : PhaseRecord) → Fit book s →
      Goes book s (piece_kept_received m s host version next phase)
  piece_kept_is = recovery.piece_kept_is db m now starts F D P moves

  piece_received_is : (book : Book) (s : Server) (k number : ℕ) (version : Version) (total at : ℕ) (bytes : List ℕ) (phase : PhaseRecord) →
      P book (body.Piece number version total at bytes) → s.phase ≡ phase → Fit book s →
      Goes book s (piece_received m s now k number version total at bytes phase)
  piece_received_is = recovery.piece_received_is db m now starts F D P moves

  version_told_is : (book : Book) (s : Server) (host : Host) (k number : ℕ) (version : Version) (short : List Bool) (phase : PhaseRecord) →
      s.phase ≡ phase → Fit book s → Goes book s (version_is_received (always db) m s now host k number version short phase)
  version_told_is = recovery.version_told_is db m now starts F D P moves

  version_kept_is : (book : Book) (s : Server) (k : ℕ) (version : Version) (short : List Bool) (phase : PhaseRecord) → Fit book s →
      Goes book s (version_kept_received (always db) m s now k version short phase)
  version_kept_is = recovery.version_kept_is db m now starts F D P moves

  -- ---- the receiver

  tells_is : (book : Book) (s : Server) (host : Host) (poll : ℕ) → Fit book s → Goes book s (answers_version_is m host poll s)
  tells_is book s host poll fit = shows book s _ fit (moves.packet.plain book (body.VersionIs poll s.version) tt, tt)

  keeps_is : (book : Book) (s : Server) (host : Host) → Fit book s → Goes book s (answers_version_kept m host s)
  keeps_is book s host fit = shows book s _ fit (moves.packet.plain book (body.VersionKept s.version) tt, tt)

  version_set_is : (book : Book) (s : Server) (host : Host) (poll : ℕ) (old new : Version) → P book (body.SetVersion poll old new) →
      Fit book s → Goes book s (set_version_received m s host poll old new)
  version_set_is book s host poll old new says fit =
      either book s (is_sending s.phase) _ _ (λ _. rests book s fit)
      (λ idle. either book s (version_eq s.version new) _ _ (λ _. keeps_is book s host fit)
      (λ _. either book s (version_eq s.version old && version_lt old new) _ _
      (λ is. follows book s (relabelled_by s new) (answers_version_kept m host)
      (set_here idle (and_both (version_eq s.version old) _ is)) (λ later grew fit. keeps_is later (relabelled_by s new).server host fit))
      (λ _. tells_is book s host poll fit)))
    where
      set_here : is_sending s.phase ≡ false → (version_eq s.version old ≡ true) × (version_lt old new ≡ true) →
          Goes book s (relabelled_by s new)
      set_here idle is =
          makes book book s (with_database s new s.image) (record { call = durables.Relabel new; reason = Received }) [] refl refl
          (grew_none in_lease m.me book) fit
          (record {
            keeps = moves.received.takes book s poll old new says idle is.0 is.1 fit.keeps;
            same = fit.same;
            held = fit.held;
          }) tt

  text_is : (book : Book) (s : Server) (host : Host) (k poll : ℕ) (version : Version) (total at : ℕ) (bytes : List ℕ)
      (text : Option ReceivedText) → P book (body.SendPiece poll version total at bytes) →
      text_with true k version total at bytes s.received ≡ text → is_sending s.phase ≡ false → version_lt s.version version ≡ true →
      Fit book s → Goes book s (text_went_on m s host poll text)
  text_is book s host k poll version total at bytes None says is idle less fit = rests book s fit
  text_is book s host k poll version total at bytes (Some text) says is idle less fit =
      either book s (is_whole text) _ _
      (λ whole. follows book s (installed s text.version text.bytes) (answers_version_kept m host)
      (installed_is book s true k poll version total at bytes text says is idle whole
      (subst (λ (v : Version). version_lt s.version v ≡ true) (sym (text_is_of true k version total at bytes s.received text is)) less) fit)
      (λ later grew fit. keeps_is later (with_database s text.version text.bytes) host fit))
      (λ _. turns book s (record s { received = Some text }) _ refl fit
      (texts book s true k poll version total at bytes text says is fit)
      (moves.packet.plain book (body.PieceKept poll text.version (length text.bytes)) tt, tt))

  piece_taken_is : (book : Book) (s : Server) (host : Host) (k poll : ℕ) (version : Version) (total at : ℕ) (bytes : List ℕ) →
      P book (body.SendPiece poll version total at bytes) → Fit book s →
      Goes book s (send_piece_received m s host k poll version total at bytes)
  piece_taken_is book s host k poll version total at bytes says fit =
      either book s (is_sending s.phase || is_fetch s.phase) _ _ (λ _. rests book s fit)
      (λ idle. either book s (version_eq s.version version) _ _ (λ _. keeps_is book s host fit)
      (λ differs. either book s (version_lt version s.version) _ _ (λ _. tells_is book s host poll fit)
      (λ not_less. text_is book s host k poll version total at bytes (text_with true k version total at bytes s.received) says refl
      (or_none (is_sending s.phase) _ idle).0 (not_below s.version version differs not_less) fit)))

  write_kept_is : (book : Book) (s : Server) (old new : Version) (pieces len : ℕ) → P book (body.Begin old new pieces len) → Fit book s →
      Goes book s (begin_received s old new pieces len)
  write_kept_is book s old new pieces len says fit =
      either book s (is_sending s.phase) _ _ (λ _. rests book s fit)
      (λ idle. either book s (version_eq s.version old && version_lt old new && nat_le pieces MAX_PIECES) _ _
      (λ is. turns book s (record s { kept = Some (empty_write old new pieces len) }) [] refl fit
      (let w = and_both (version_eq s.version old && version_lt old new) (nat_le pieces MAX_PIECES) is in
      let both = and_both (version_eq s.version old) (version_lt old new) w.0 in
      record {
        keeps = moves.field.begins book s old new pieces len says idle both.0 both.1 fit.keeps;
        same = fit.same;
        held = fit.held;
      }) tt)
      (λ _. rests book s fit))

  write_piece_is : (book : Book) (s : Server) (new : Version) (number : ℕ) (bytes : List ℕ) → P book (body.PutPiece new number bytes) →
      Fit book s → Goes book s (put_piece_received s new number bytes)
  write_piece_is book s new number bytes says fit =
      either book s (is_sending s.phase) _ _ (λ _. rests book s fit)
      (λ _. turns book s (record s { kept = kept_with new number bytes s.kept }) [] refl fit
      (record { keeps = moves.field.puts book s new number bytes says fit.keeps; same = fit.same; held = fit.held }) tt)

  taken_is : (book : Book) (s : Server) (host : Host) (old new : Version) (changes : Option (List Change)) → P book (body.Commit old new) →
      is_sending s.phase ≡ false → version_eq s.version old ≡ true → whole_write new s.kept ≡ changes → Fit book s →
      Goes book s (write_taken m s host new changes)
  taken_is book s host old new None says idle same whole fit = rests book s fit
  taken_is book s host old new (Some changes) says idle same whole fit =
      either book s (is_none (too_large 0 (length s.image) changes)) _ _
      (λ small. follows book s (committed_by s new changes) (answers_version_kept m host) (made (small_is _ small))
      (λ later grew fit. keeps_is later (committed_by s new changes).server host fit))
      (λ _. rests book s fit)
    where
      small_is : (o : Option ℕ) → is_none o ≡ true → o ≡ None
      small_is None is = refl
      small_is (Some n) is = no is

      made : too_large 0 (length s.image) changes ≡ None → Goes book s (committed_by s new changes)
      made small =
          makes book book s (committed_by s new changes).server
          (record {
            call = durables.Commit new (logged (length s.image) changes) (effect s.image (logged (length s.image) changes));
            reason = Received;
          }) [] refl refl (grew_none in_lease m.me book) fit
          (record {
            keeps = moves.received.writes book s old new changes says idle same whole small fit.keeps;
            same = fit.same;
            held = fit.held;
          }) tt

  write_committed_is : (book : Book) (s : Server) (host : Host) (old new : Version) → P book (body.Commit old new) → Fit book s →
      Goes book s (commit_received m s host old new)
  write_committed_is book s host old new says fit =
      either book s (is_sending s.phase) _ _ (λ _. rests book s fit)
      (λ idle. either book s (version_eq s.version new) _ _ (λ _. keeps_is book s host fit)
      (λ _. either book s (version_eq s.version old) _ _
      (λ same. taken_is book s host old new (whole_write new s.kept) says idle same refl fit) (λ _. rests book s fit)))

  write_dropped_is : (book : Book) (s : Server) (new : Version) → Fit book s → Goes book s (abort_received s new)
  write_dropped_is book s new fit =
      either book s (is_sending s.phase) _ _ (λ _. rests book s fit)
      (λ _. turns book s (record s { kept = kept_but new s.kept }) [] refl fit
      (record { keeps = moves.field.aborts book s new fit.keeps; same = fit.same; held = fit.held }) tt)

  piece_asked_is : (book : Book) (s : Server) (host : Host) (poll : ℕ) (version : Version) (at : ℕ) → Fit book s →
      Goes book s (get_piece_received m s host poll version at)
  piece_asked_is book s host poll version at fit =
      either book s (version_eq s.version version && (at == 0 || nat_lt at (length s.image))) _ _
      (λ is. shows book s _ fit
      (moves.packet.piece book s poll version at (and_both (version_eq s.version version) _ is).0 fit.keeps, tt))
      (λ _. tells_is book s host poll fit)

  -- ---- the lapse

  pub lapsed_is : (book : Book) (s : Server) → s.starts ≡ starts → F book s → Goes book s (lapsed m s now)
  lapsed_is book s same keeps =
      cond_both (leased m s now) (write_lapsed m s now s.flight) (phase_dropped m s now) (Goes book s)
      (λ is. held_by_lease (subst (λ (c : List (Option ℕ)). is_in_lease (cell_size m) c now ≡ true) same is) s.flight)
      (λ _. dropped)
    where
      here : Leads D in_lease m.me book (durable_of s) [] book (durable_of s)
      here = (refl, refl, moves.own.stands book s keeps)

      dropped : Goes book s (phase_dropped m s now)
      dropped = record {
        later = book;
        grew = grew_none in_lease m.me book;
        leads = here;
        fit = record { keeps = moves.phase.lapses book s NoPhase refl keeps; same = same; held = λ is. no is };
        shown = refused_says (P book) m s now phases.None;
      }

      held_by_lease : Lease → (f : Option Flight) → Goes book s (write_lapsed m s now f)
      held_by_lease lease None = rests book s (record { keeps = keeps; same = same; held = λ _. lease })
      held_by_lease lease (Some f) =
          either book s (nat_lt (f.began + SMALLTIME) now) _ _
          (λ _. record {
            later = book;
            grew = grew_none in_lease m.me book;
            leads = here;
            fit = record {
              keeps = moves.phase.lapses book s (Poll (new_poll m (without_writes s) now)) refl keeps;
              same = same;
              held = λ _. lease;
            };
            shown =
                say_append (P book) (writes_refused m s now phases.Poll) _ (refused_says (P book) m s now phases.Poll)
                (each_says (P book) m _ (λ k. (moves.packet.plain book (body.Abort s.version) tt, tt)));
          })
          (λ _. rests book s (record { keeps = keeps; same = same; held = λ _. lease }))

  -- ---- votes

  ended : (book : Book) (s : Server) (t : Stepped) → Goes book s t → Ends book s t
  ended book s t goes =
      record { later = goes.later; grew = goes.grew; leads = goes.leads; keeps = goes.fit.keeps; held = goes.fit.held; shown = goes.shown }

  -- what only votes, after the lapse
  votes_is : (book : Book) (s u : Server) (shown : List Shown) → durable_of s ≡ durable_of u → u.phase ≡ s.phase → Fit book s →
      F book u → AllSay (P book) shown → Ends book s (showing u shown)
  votes_is book s u shown same phase first keeps all = record {
    later = book;
    grew = grew_none in_lease m.me book;
    leads = (refl, same, moves.own.stands book s first.keeps);
    keeps = keeps;
    held = λ is. first.held (sym (ap is_held phase) ∙ is);
    shown = all;
  }

  beacon_turn_is : (book : Book) (s : Server) → Fit book s → Ends book s (beacon_turn m s now)
  beacon_turn_is book s fit =
      cond_both _ (beacon_taken m s now (leased m s now)) (quiet s) (Ends book s)
      (λ _. votes_is book s (beacon_taken m s now (leased m s now)).server _ refl refl fit
      (moves.phase.votes book s _ _ s.beacon fit.keeps)
      (each_says (P book) m _ (λ k. (moves.packet.plain book (own_beacon s now (leased m s now)) tt, tt))))
      (λ _. votes_is book s s [] refl refl fit fit.keeps tt)

  -- ---- every event

  received_is : (book : Book) (s : Server) (host : Host) (k : ℕ) (c : Body) (short : List Bool) → P book c → Fit book s →
      Ends book s (received_from (always db) m s now host k c short)
  received_is book s host k (body.Beacon start claim ready version) short says fit =
      votes_is book s (beacon_received m s now host k start claim ready version).server _ refl refl fit
      (moves.phase.votes book s _ s.starts _ fit.keeps) (moves.packet.plain book (body.Vote start _) tt, tt)
  received_is book s host k (body.Vote start granted) short says fit =
      votes_is book s (vote_received m s k start granted).server [] refl refl fit (moves.phase.votes book s s.votes _ s.beacon fit.keeps) tt
  received_is book s host k (body.GetVersion poll) short says fit = ended book s _ (tells_is book s host poll fit)
  received_is book s host k (body.VersionIs poll version) short says fit =
      ended book s _ (version_told_is book s host k poll version short s.phase refl fit)
  received_is book s host k (body.GetPiece poll version offset) short says fit =
      ended book s _ (piece_asked_is book s host poll version offset fit)
  received_is book s host k (body.Piece poll version total offset bytes) short says fit =
      ended book s _ (piece_received_is book s k poll version total offset bytes s.phase says refl fit)
  received_is book s host k (body.SendPiece poll version total offset bytes) short says fit =
      ended book s _ (piece_taken_is book s host k poll version total offset bytes says fit)
  received_is book s host k (body.PieceKept poll version next) short says fit =
      ended book s _ (piece_kept_is book s host version next s.phase fit)
  received_is book s host k (body.SetVersion poll old new) short says fit =
      ended book s _ (version_set_is book s host poll old new says fit)
  received_is book s host k (body.Begin old new pieces len) short says fit =
      ended book s _ (write_kept_is book s old new pieces len says fit)
  received_is book s host k (body.PutPiece new number bytes) short says fit =
      ended book s _ (write_piece_is book s new number bytes says fit)
  received_is book s host k (body.Commit old new) short says fit = ended book s _ (write_committed_is book s host old new says fit)
  received_is book s host k (body.Abort new) short says fit = ended book s _ (write_dropped_is book s new fit)
  received_is book s host k (body.VersionKept version) short says fit =
      ended book s _ (version_kept_is book s k version short s.phase fit)

  packet_is : (book : Book) (s : Server) (p : Packet) (short : List Bool) (place : Option ℕ) → P book p.body → Fit book s →
      Ends book s (received_packet (always db) m s now p short place)
  packet_is book s p short None says fit = ended book s _ (rests book s fit)
  packet_is book s p short (Some k) says fit = received_is book s p.from k p.body short says fit

  -- what an event tells
  abbrev pub EventSays : Book → NodeEvent → Type 0
  EventSays book (event.Packet p) = P book p.body
  EventSays book _ = Unit {0}

  says_later : (book later : Book) (e : NodeEvent) → Grew in_lease m.me book later → EventSays book e → EventSays later e
  says_later book later (event.Packet p) grew says = moves.packet.later book later p.body grew says
  says_later book later event.BeaconTurn grew says = tt
  says_later book later event.RecoverTurn grew says = tt
  says_later book later (event.Ask id call) grew says = tt

  handled_is : (book : Book) (s : Server) (e : NodeEvent) (short : List Bool) → EventSays book e → Fit book s →
      Ends book s (handled (always db) m s now e short)
  handled_is book s (event.Packet p) short says fit = packet_is book s p short (place_of m.hosts p.from) says fit
  handled_is book s event.BeaconTurn short says fit = beacon_turn_is book s fit
  handled_is book s event.RecoverTurn short says fit = ended book s _ (recovered_is book s s.phase refl fit)
  handled_is book s (event.Ask id call) short says fit = ended book s _ (asked_as_is book s id call (is_short short) (db.writes call) fit)

  pub step_ends : (book : Book) (s : Server) (e : NodeEvent) (short : List Bool) → s.starts ≡ starts → EventSays book e → F book s →
      Ends book s (step_of db m s now e short)
  unfolding step_by
  step_ends book s e short same says keeps =
      then (lapsed_is book s same keeps)
    where
      t : Stepped
      t = lapsed m s now

      next : Server → Stepped
      next after = handled (always db) m after now e (short_after t.shown short)

      then : Goes book s t → Ends book s (followed t next)
      then first =
          let second : Ends first.later t.server (next t.server) =
          handled_is first.later t.server e (short_after t.shown short) (says_later book first.later e first.grew says) first.fit in
          record {
            later = second.later;
            grew = grew_then in_lease m.me book first.later second.later first.grew second.grew;
            leads =
                leads_append D in_lease m.me book first.later second.later (durable_of s) (durable_of t.server)
                (durable_of (next t.server).server)
                t.calls (next t.server).calls first.leads second.leads;
            keeps = second.keeps;
            held = second.held;
            shown =
                say_append (P second.later) t.shown (next t.server).shown
                (say_more (P first.later) (P second.later) t.shown (λ b. moves.packet.later first.later second.later b second.grew) first.shown)
                second.shown;
          }
