-- What each move of a step keeps, the rules of the sync site keep: holders, writes and asks.
use Rattle.std.proofs.Common.{Bool, true, false, cond, ◌==◌, ◌≡◌, ℕ, List, [], ◌∷◌, ◌++◌, length, refl, sym, ap, subst}
use Rattle.std.proofs.lemmas.Bool.{cond_both}
use Rattle.std.specs.Prelude.{Option, Some, None, nat_le}
use Rattle.lock_table.specs.declared.tables.TheConstants.{MAX_WAITING}
use Rattle.ubik_types.specs.declared.images.Change.{Change}
use Rattle.ubik_types.specs.declared.versions.TheConstants.{MAX_COUNTER}
use Rattle.ubik_types.specs.declared.versions.Version.{Version}
use Rattle.ubik_types.specs.Lease.{is_in_lease}
use Rattle.ubik_types.specs.Logged.{too_large}
use Rattle.ubik_types.specs.Phase.{Polled, Spread, PhaseRecord, NoPhase, Poll, Fetch, Relabel, Send, Ready}
use Rattle.ubik_types.specs.Quorum.{is_majority}
use Rattle.ubik_calls.specs.declared.packets.Body.{Body}
use Rattle.db_image.specs.declared.services.CallReply.{CallReply}
use Rattle.db_image.specs.declared.services.CallReply.TheVariants as call_reply
use Rattle.db_image.specs.Database.{Database, changes_of}
use Rattle.cell_model.specs.Asks.{read, write_asked, served, allows_reads, asked_elsewhere, asked_as}
use Rattle.cell_model.specs.Book.{Book, with_version}
use Rattle.cell_model.specs.Durable.{Durable, Made, Committed, durable_after}
use Rattle.cell_model.specs.Evaluating.{always}
use Rattle.cell_model.specs.Node.{Server, Flight, Waiting}
use Rattle.cell_model.specs.Polls.{new_poll, polling}
use Rattle.cell_model.specs.Receiver.{is_sending}
use Rattle.cell_model.specs.Step.{Member, cell_size, Basis, Announced_image, Beacon_image, Shown, Stepped, quiet, showing, followed, leased}
use Rattle.cell_model.specs.Step.{is_ready, told_version, with_phase, is_short, short_after}
use Rattle.cell_model.specs.Writes.{announced_image, next_version, own_write_begun, own_commit, ended_write, flight_settled, settled_in, settled}
use Rattle.cell_model.specs.Writes.{written_in, written_changes, written_small, written_within, turned, write_turn, is_free_in, is_free}
use Rattle.cell_model.specs.Writes.{next_turns, settled_with_turns}
use Rattle.cell_laws.proofs.Parts.{no}
use Rattle.cell_pages.specs.Growth.{Grew, durable_of, book_with, Leads}
use Rattle.cell_pages.specs.Moves.{transaction_of, Moves}
use Rattle.cell_pages.specs.Passes.{is_held}
use Rattle.cell_pages.specs.Says.{AllSay}
use Rattle.cell_pages.proofs.Leading.{grew_none, grew_then, leads_append, say_more, say_append, each_says, waiting_says}
use Rattle.cell_pages.proofs.Leading.{read_says}

module _ (db : Database) (m : Member) (now : ℕ) (starts : List (Option ℕ)) (F : Book → Server → Type 0) (D : Book → Durable → Type 0)
    (P : Book → Body → Type 0) (moves : Moves db m now (is_in_lease (cell_size m) starts now) F D P) where
  abbrev pub in_lease : Bool
  in_lease = is_in_lease (cell_size m) starts now

  abbrev pub Lease : Type 0
  Lease = is_in_lease (cell_size m) starts now ≡ true

  -- the server in the midst of a step: a phase is held in the lease alone, and no start was counted since the step began
  pub record Fit (book : Book) (s : Server) : Type 0 where
    pub keeps : F book s
    pub same : s.starts ≡ starts
    pub held : is_held s.phase ≡ true → Lease

  -- a part of a step that leaves the votes
  pub record Goes (book : Book) (s : Server) (t : Stepped) : Type 0 where
    pub later : Book
    pub grew : Grew in_lease m.me book later
    pub leads : Leads D in_lease m.me book (durable_of s) t.calls later (durable_of t.server)
    pub fit : Fit later t.server
    pub shown : AllSay (P later) t.shown

  pub either : (book : Book) (s : Server) (test : Bool) (x y : Stepped) → (test ≡ true → Goes book s x) → (test ≡ false → Goes book s y) →
      Goes book s (cond test x y)
  either book s test x y = cond_both test x y (Goes book s)

  -- the server is another one, with the same database
  pub turns : (book : Book) (s u : Server) (shown : List Shown) → durable_of s ≡ durable_of u → Fit book s → Fit book u →
      AllSay (P book) shown → Goes book s (showing u shown)
  turns book s u shown same before fit all = record {
    later = book;
    grew = grew_none in_lease m.me book;
    leads = (refl, same, moves.own.stands book s before.keeps);
    fit = fit;
    shown = all;
  }

  pub shows : (book : Book) (s : Server) (shown : List Shown) → Fit book s → AllSay (P book) shown → Goes book s (showing s shown)
  shows book s shown fit all = turns book s s shown refl fit fit all

  pub rests : (book : Book) (s : Server) → Fit book s → Goes book s (quiet s)
  rests book s fit = shows book s [] fit tt

  -- one durable call
  pub makes : (book later : Book) (s u : Server) (made : Made) (shown : List Shown) → book_with m.me book (durable_of s) made ≡ later →
      durable_after (durable_of s) made.call ≡ durable_of u → Grew in_lease m.me book later → Fit book s → Fit later u →
      AllSay (P later) shown →
      Goes book s (record { server = u; calls = made ∷ []; shown = shown })
  makes book later s u made shown is_book is_durable grew before fit all = record {
    later = later;
    grew = grew;
    leads = (
      (moves.own.stands book s before.keeps, subst (λ (g : Book). Grew in_lease m.me book g) (sym is_book) grew),
      (
        is_book,
        is_durable,
        subst (λ (g : Book). D g (durable_after (durable_of s) made.call)) (sym is_book)
            (subst (λ (d : Durable). D later d) (sym is_durable) (moves.own.stands later u fit.keeps)),
      ),
    );
    fit = fit;
    shown = all;
  }

  pub follows : (book : Book) (s : Server) (t : Stepped) (next : Server → Stepped) → Goes book s t →
      ((later : Book) → Grew in_lease m.me book later → Fit later t.server → Goes later t.server (next t.server)) →
      Goes book s (followed t next)
  follows book s t next first second =
      let then : Goes first.later t.server (next t.server) = second first.later first.grew first.fit in
      record {
        later = then.later;
        grew = grew_then in_lease m.me book first.later then.later first.grew then.grew;
        leads =
            leads_append D in_lease m.me book first.later then.later (durable_of s) (durable_of t.server)
            (durable_of (next t.server).server)
            t.calls (next t.server).calls first.leads then.leads;
        fit = then.fit;
        shown =
            say_append (P then.later) t.shown (next t.server).shown
            (say_more (P first.later) (P then.later) t.shown (λ b. moves.packet.later first.later then.later b then.grew) first.shown)
            then.shown;
      }

  -- the same from a server that has the same database
  pub before : (book : Book) (s u : Server) (t : Stepped) → durable_of u ≡ durable_of s → Goes book u t → Goes book s t
  before book s u t same goes = record {
    later = goes.later;
    grew = goes.grew;
    leads = subst (λ (d : Durable). Leads D in_lease m.me book d t.calls goes.later (durable_of t.server)) same goes.leads;
    fit = goes.fit;
    shown = goes.shown;
  }

  pub lease_of : (book : Book) (s : Server) → Fit book s → leased m s now ≡ true → Lease
  lease_of book s fit is = subst (λ (c : List (Option ℕ)). is_in_lease (cell_size m) c now ≡ true) fit.same is

  -- a phase of no sending, in the lease
  pub leaves : (book : Book) (s : Server) (phase : PhaseRecord) → is_sending phase ≡ false → s.flight ≡ None → Lease → Fit book s →
      Fit book (with_phase s phase)
  leaves book s phase idle none lease fit =
      record { keeps = moves.phase.leaves book s phase idle none fit.keeps; same = fit.same; held = λ _. lease }

  not_ready : (phase : PhaseRecord) → is_sending phase ≡ false → is_ready phase ≡ false
  not_ready NoPhase is = refl
  not_ready (Poll poll) is = refl
  not_ready (Fetch poll best host) is = refl
  not_ready (Relabel poll) is = refl
  not_ready (Send poll spread) is = refl
  not_ready (Ready poll spread announced) is = no (sym is)

  pub no_flight : (book : Book) (s : Server) → is_sending s.phase ≡ false → Fit book s → s.flight ≡ None
  no_flight book s idle fit = moves.phase.no_flight book s (not_ready s.phase idle) fit.keeps

  waits : (book : Book) (s : Server) (waiting : List Waiting) → Fit book s → Fit book (record s { waiting = waiting })
  waits book s waiting fit = record { keeps = moves.phase.waits book s waiting fit.keeps; same = fit.same; held = fit.held }

  -- ---- holders

  flight_settled_is : (book : Book) (s : Server) (poll : Polled) (spread : Spread) (announced : Version) (f : Option Flight) →
      s.phase ≡ Ready poll spread announced → s.flight ≡ f → Fit book s → Goes book s (flight_settled m s poll spread announced f)
  flight_settled_is book s poll spread announced None at is fit = rests book s fit
  flight_settled_is book s poll spread announced (Some f) at is fit =
      either book s (is_majority (cell_size m) spread.holders) _ _ (λ _. ended) (λ _. rests book s fit)
    where
      ended : Goes book s (ended_write s f poll spread announced)
      ended =
          turns book s (record (with_phase s (Ready poll spread s.version)) { flight = None }) _ refl fit
          (record {
            keeps = moves.phase.ends book s poll spread announced f at is fit.keeps;
            same = fit.same;
            held = λ _. fit.held (ap is_held at);
          }) (tt, (tt, tt))

  settled_in_is : (book : Book) (s : Server) (phase : PhaseRecord) → s.phase ≡ phase → Fit book s → Goes book s (settled_in m s phase)
  settled_in_is book s NoPhase at fit = rests book s fit
  settled_in_is book s (Poll poll) at fit = rests book s fit
  settled_in_is book s (Fetch poll best host) at fit = rests book s fit
  settled_in_is book s (Relabel poll) at fit = rests book s fit
  settled_in_is book s (Send poll spread) at fit =
      either book s (is_majority (cell_size m) spread.holders) _ _
      (λ _. turns book s (with_phase s (Ready poll spread s.version)) _ refl fit
      (record {
        keeps = moves.phase.announces book s poll spread at fit.keeps;
        same = fit.same;
        held = λ _. fit.held (ap is_held at);
      }) (tt, tt))
      (λ _. rests book s fit)
  settled_in_is book s (Ready poll spread announced) at fit = flight_settled_is book s poll spread announced s.flight at refl fit

  pub settled_is : (book : Book) (s : Server) → Fit book s → Goes book s (settled m s)
  settled_is book s fit = settled_in_is book s s.phase refl fit

  -- ---- writes

  -- what is known of a write where it is begun
  pub record Fits (s : Server) (call image : List ℕ) (changes : List Change) : Type 0 where
    pub image_is : image ≡ (db.call s.image now call).image
    pub changes_are : changes ≡ changes_of db s.image image
    pub within : too_large 0 (length s.image) changes ≡ None

  written_in_is : (book : Book) (s : Server) (id : ℕ) (call answer image : List ℕ) (changes : List Change) (phase : PhaseRecord) →
      s.phase ≡ phase → s.flight ≡ None → (s.version.counter == MAX_COUNTER) ≡ false → Fits s call image changes → Fit book s →
      Goes book s (written_in m s now id call answer image changes phase)
  written_in_is book s id call answer image changes NoPhase at free counter fits fit = rests book s fit
  written_in_is book s id call answer image changes (Poll poll) at free counter fits fit = rests book s fit
  written_in_is book s id call answer image changes (Fetch poll best host) at free counter fits fit = rests book s fit
  written_in_is book s id call answer image changes (Relabel poll) at free counter fits fit = rests book s fit
  written_in_is book s id call answer image changes (Send poll spread) at free counter fits fit = rests book s fit
  written_in_is book s id call answer image changes (Ready poll spread announced) at free counter fits fit =
      follows book s begun (settled m) made (λ later grew fit. settled_is later begun.server fit)
    where
      begun : Stepped
      begun = own_write_begun m s now id call answer image changes poll spread

      later : Book
      later = with_version book m.me s.version (next_version s.version) (Committed (transaction_of now call))

      lease : Lease
      lease = fit.held (ap is_held at)

      both : Grew in_lease m.me book later × F later begun.server
      both = moves.own.commits book s id call answer image changes poll spread announced lease at free counter fits.image_is
          fits.changes_are fits.within fit.keeps

      made : Goes book s begun
      made =
          makes book later s begun.server (own_commit (next_version s.version) changes image (transaction_of now call)) begun.shown refl refl
          both.0 fit (record { keeps = both.1; same = fit.same; held = λ _. lease })
          (each_says (P later) m _ (λ k. moves.packet.write later begun.server poll _ s.version _ refl refl both.1))

  written_changes_is : (book : Book) (s : Server) (id : ℕ) (call answer image : List ℕ) (changes : List Change) → s.flight ≡ None → Lease →
      Fits s call image changes → Fit book s → Goes book s (written_changes m s now id call answer image changes)
  written_changes_is book s id call answer image changes free lease fits fit =
      either book s (s.version.counter == MAX_COUNTER) _ _
      (λ _. turns book s (polling m (record s { waiting = [] }) now) _ refl fit
      (leaves book (record s { waiting = [] }) (Poll (new_poll m (record s { waiting = [] }) now)) refl free lease (waits book s [] fit))
      (tt, waiting_says (P book) s.waiting _))
      (λ counter. written_in_is book s id call answer image changes s.phase refl free counter fits fit)

  written_small_is : (book : Book) (s : Server) (id : ℕ) (call answer image : List ℕ) (changes : List Change) → s.flight ≡ None → Lease →
      Fits s call image changes → Fit book s → Goes book s (written_small m s now id call answer image changes)
  written_small_is book s id call answer image [] free lease fits fit = shows book s _ fit (tt, tt)
  written_small_is book s id call answer image (change ∷ changes) free lease fits fit =
      written_changes_is book s id call answer image (change ∷ changes) free lease fits fit

  written_within_is : (book : Book) (s : Server) (id : ℕ) (call answer image : List ℕ) (passed : Option ℕ) → s.flight ≡ None → Lease →
      image ≡ (db.call s.image now call).image → too_large 0 (length s.image) (changes_of db s.image image) ≡ passed → Fit book s →
      Goes book s (written_within m s now id call answer image (changes_of db s.image image) passed)
  written_within_is book s id call answer image None free lease same within fit =
      written_small_is book s id call answer image (changes_of db s.image image) free lease
      (record { image_is = same; changes_are = refl; within = within }) fit
  written_within_is book s id call answer image (Some bytes) free lease same within fit = shows book s _ fit (tt, tt)

  turned_is : (book : Book) (s : Server) (id : ℕ) (call image : List ℕ) (r : CallReply) → s.flight ≡ None → Lease →
      image ≡ (db.call s.image now call).image → Fit book s → Goes book s (turned db m s now id call image r)
  turned_is book s id call image (call_reply.Done answer) free lease same fit =
      written_within_is book s id call answer image (too_large 0 (length s.image) (changes_of db s.image image)) free lease same refl fit
  turned_is book s id call image (call_reply.Rule number) free lease same fit = shows book s _ fit (tt, tt)
  turned_is book s id call image call_reply.Malformed free lease same fit = shows book s _ fit (tt, tt)
  turned_is book s id call image (call_reply.BadRecord at) free lease same fit = shows book s _ fit (tt, tt)

  turn_is : (book : Book) (s : Server) (id : ℕ) (call : List ℕ) (short : Bool) → s.flight ≡ None → Lease → Fit book s →
      Goes book s (write_turn db m s now id call short)
  turn_is book s id call short free lease fit =
      either book s short _ _ (λ _. shows book s _ fit (tt, tt))
      (λ _. turned_is book s id call (db.call s.image now call).image (db.call s.image now call).reply free lease refl fit)

  free_held : (phase : PhaseRecord) (f : Option Flight) → is_free_in phase f ≡ true → is_held phase ≡ true
  free_held NoPhase f is = no is
  free_held (Poll poll) f is = refl
  free_held (Fetch poll best host) f is = refl
  free_held (Relabel poll) f is = refl
  free_held (Send poll spread) f is = refl
  free_held (Ready poll spread announced) f is = refl

  free_none : (phase : PhaseRecord) (f : Option Flight) → is_free_in phase f ≡ true → f ≡ None
  free_none NoPhase f is = no is
  free_none (Poll poll) f is = no is
  free_none (Fetch poll best host) f is = no is
  free_none (Relabel poll) f is = no is
  free_none (Send poll spread) f is = no is
  free_none (Ready poll spread announced) None is = refl
  free_none (Ready poll spread announced) (Some f) is = no is

  next_turns_is : (book : Book) (waiting : List Waiting) (s : Server) (short : List Bool) → Fit book s →
      Goes book s (next_turns (always db) m now waiting s short)
  next_turns_is book [] s short fit = rests book s fit
  next_turns_is book (w ∷ waiting) s short fit =
      either book s (is_free s) _ _
      (λ free. follows book s (write_turn db m (record s { waiting = waiting }) now w.id w.call (is_short short))
      (λ after. next_turns (always db) m now waiting after
      (short_after (write_turn db m (record s { waiting = waiting }) now w.id w.call (is_short short)).shown short))
      (before book s (record s { waiting = waiting }) _ refl
      (turn_is book (record s { waiting = waiting }) w.id w.call (is_short short) (free_none s.phase s.flight free)
      (fit.held (free_held s.phase s.flight free)) (waits book s waiting fit)))
      (λ later grew fit. next_turns_is later waiting _ _ fit))
      (λ _. rests book s fit)

  pub settled_with_turns_is : (book : Book) (s : Server) (short : List Bool) → Fit book s →
      Goes book s (settled_with_turns (always db) m s now short)
  settled_with_turns_is book s short fit =
      follows book s (settled m s) (λ after. next_turns (always db) m now after.waiting after (short_after (settled m s).shown short))
      (settled_is book s fit) (λ later grew fit. next_turns_is later (settled m s).server.waiting (settled m s).server _ fit)

  -- ---- asks

  read_is : (book : Book) (s : Server) (id : ℕ) (call image : List ℕ) (basis : Basis) (short : Bool) → Fit book s →
      Goes book s (read db s now id call image basis short)
  read_is book s id call image basis short fit =
      either book s short _ _ (λ _. shows book s _ fit (tt, tt))
      (λ _. shows book s _ fit
      (read_says (P book) id (record { call = call; moment = now; basis = basis }) (db.call image now call).reply))

  write_asked_is : (book : Book) (s : Server) (id : ℕ) (call : List ℕ) (short : Bool) (f : Option Flight) → s.flight ≡ f → Lease →
      Fit book s → Goes book s (write_asked db m s now id call short f)
  write_asked_is book s id call short None free lease fit = turn_is book s id call short free lease fit
  write_asked_is book s id call short (Some f) free lease fit =
      either book s (nat_le MAX_WAITING (length s.waiting)) _ _ (λ _. shows book s _ fit (tt, tt))
      (λ _. either book s short _ _ (λ _. shows book s _ fit (tt, tt))
      (λ _. turns book s (record s { waiting = s.waiting ++ record { id = id; call = call } ∷ [] }) [] refl fit (waits book s _ fit) tt))

  served_is : (book : Book) (s : Server) (id : ℕ) (call : List ℕ) (writes short : Bool) → Lease → Fit book s →
      Goes book s (served db m s now id call writes short)
  served_is book s id call writes short lease fit =
      either book s writes _ _ (λ _. write_asked_is book s id call short s.flight refl lease fit)
      (λ _. read_is book s id call (announced_image s) (Announced_image (told_version s.phase s.version)) short fit)

  elsewhere_is : (book : Book) (s : Server) (id : ℕ) (call : List ℕ) (writes short may_read : Bool) → Fit book s →
      Goes book s (asked_elsewhere db m s now id call writes short may_read)
  elsewhere_is book s id call writes short may_read fit =
      either book s writes _ _ (λ _. shows book s _ fit (tt, tt))
      (λ _. either book s may_read _ _ (λ _. read_is book s id call s.image (Beacon_image s.version) short fit)
      (λ _. shows book s _ fit (tt, tt)))

  pub asked_as_is : (book : Book) (s : Server) (id : ℕ) (call : List ℕ) (short : Bool) (o : Option Bool) → Fit book s →
      Goes book s (asked_as db m s now id call short o)
  asked_as_is book s id call short None fit = shows book s _ fit (tt, tt)
  asked_as_is book s id call short (Some writes) fit =
      either book s (leased m s now) _ _
      (λ is. either book s (is_ready s.phase) _ _ (λ _. served_is book s id call writes short (lease_of book s fit is) fit)
      (λ _. shows book s _ fit (tt, tt)))
      (λ _. elsewhere_is book s id call writes short (allows_reads s.version now s.beacon) fit)
