-- What each move keeps, the rules of recovery keep.
use Rattle.std.proofs.Common.{Bool, true, false, cond, ◌==◌, ◌≡◌, ℕ, ◌+◌, ◌<◌, List, [], ◌∷◌, length, map, refl, sym, ap}
use Rattle.std.proofs.Common.{subst, ◌∙◌}
use Rattle.std.proofs.lemmas.Bool.{cond_both}
use Rattle.std.specs.Prelude.{Option, Some, None, ◌&&◌, not, nat_lt, is_some}
use Rattle.ubik_types.specs.declared.hosts.Host.{Host}
use Rattle.ubik_types.specs.declared.limits.TheConstants.{SMALLTIME}
use Rattle.ubik_types.specs.declared.versions.Version.{Version}
use Rattle.ubik_types.specs.Lease.{is_in_lease}
use Rattle.ubik_types.specs.Phase.{Polled, Spread, PhaseRecord, NoPhase, Poll, Fetch, Relabel, Send, Ready}
use Rattle.ubik_types.specs.Quorum.{is_majority}
use Rattle.ubik_types.specs.Version.{version_lt, version_eq}
use Rattle.xdr_base.specs.ChangeText.{text_of}
use Rattle.db_image.specs.Database.{Database}
use Rattle.cell_model.specs.Book.{with_version}
use Rattle.cell_model.specs.Durable.{Made, Received, version_after}
use Rattle.cell_model.specs.Durable as durables
use Rattle.cell_model.specs.Evaluating.{always}
use Rattle.cell_model.specs.Node.{Server, ReceivedText, Flight}
use Rattle.cell_model.specs.Polls.{new_poll, polling, with_answer, best_answer, first_with, entry_at, is_marked}
use Rattle.cell_model.specs.Receiver.{is_sending}
use Rattle.cell_model.specs.Recovery.{asks_versions, has_answered, first_of_epoch, own_relabelling, relabelled_to, relabelled, polled}
use Rattle.cell_model.specs.Recovery.{poll_asked, spread_to, spread_answer, spread_bodies, poll_begun, bytes_received}
use Rattle.cell_model.specs.Recovery.{spread_again, recovered, held_by, holder_added, lacking_sent, told_to_spread, version_is_received}
use Rattle.cell_model.specs.Recovery.{version_kept_received, next_sent, piece_kept_received, text_with, is_whole, installed}
use Rattle.cell_model.specs.Recovery.{fetch_went_on, piece_received}
use Rattle.cell_model.specs.Step.{Member, cell_size, Shown, Stepped}
use Rattle.cell_model.specs.Step.{quiet, showing, followed}
use Rattle.cell_model.specs.Step.{leased, is_ready, with_phase, with_database}
use Rattle.cell_model.specs.Writes.{settled}
use Rattle.cell_model.specs.Writes.{settled_with_turns}
use Rattle.cell_laws.proofs.Parts.{lt_true, eq_true}
use Rattle.cell_pages.specs.Moves.{AllBodies}
use Rattle.cell_pages.specs.Passes.{is_held}
use Rattle.cell_pages.proofs.Leading.{bodies_if}
use Rattle.cell_pages.proofs.Versions.{same_of_eq, lt_of_epoch}
use Rattle.cell_orders.specs.Histories.{Stand, stand_of, History, with_book, after, IsNumbered, FitsTo, AllFit}
use Rattle.cell_orders.specs.OrderMoves.{OrderMoves}
use Rattle.cell_orders.proofs.Serving.{flown_held}
use Rattle.cell_orders.proofs.Telling.{each_fits, write_fits}
use Rattle.cell_orders.proofs.Standing.{level_idle, level_held, not_both, not_itself, not_ready, ready_held, none_made, held_held}
use Rattle.cell_orders.proofs.Walk as walk

module _ (db : Database) (m : Member) (now : ℕ) (starts : List (Option ℕ)) (Called : ℕ → List ℕ → Type 0) (Asked : ℕ → ℕ → Type 0)
    (Answered : ℕ → ℕ → Version → Type 0) (Kept : ℕ → Version → Type 0) (I : History → Stand → Type 0)
    (moves : OrderMoves m now (is_in_lease (cell_size m) starts now) Asked Answered Kept I) where
  abbrev in_lease : Bool
  in_lease = is_in_lease (cell_size m) starts now

  abbrev Lease : Type 0
  Lease = is_in_lease (cell_size m) starts now ≡ true

  abbrev Fit : History → Server → Type 0
  Fit h s = walk.Fit db m now starts Called Asked Answered Kept I moves h s

  abbrev Goes : History → Version → Stepped → Type 0
  Goes h v t = walk.Goes db m now starts Called Asked Answered Kept I moves h v t

  abbrev Fits : Server → List Shown → Type 0
  Fits s shown = AllFit m Asked (stand_of s) shown

  either : (h : History) (v : Version) (test : Bool) (x y : Stepped) → (test ≡ true → Goes h v x) → (test ≡ false → Goes h v y) →
      Goes h v (cond test x y)
  either = walk.either db m now starts Called Asked Answered Kept I moves

  turns : (h : History) (u : Server) (shown : List Shown) → Fit h u → Fits u shown → Goes h u.version (showing u shown)
  turns = walk.turns db m now starts Called Asked Answered Kept I moves

  rests : (h : History) (s : Server) → Fit h s → Goes h s.version (quiet s)
  rests = walk.rests db m now starts Called Asked Answered Kept I moves

  makes : (h : History) (s u : Server) (made : Made) (shown : List Shown) → version_lt s.version (version_after made.call) ≡ true →
      version_after made.call ≡ u.version →
      Fit (with_book h (with_version h.book m.me s.version (version_after made.call) made.reason)) u → Fits u shown →
      Goes h s.version (record { server = u; calls = made ∷ []; shown = shown })
  makes = walk.makes db m now starts Called Asked Answered Kept I moves

  follows : (h : History) (v : Version) (t : Stepped) (next : Server → Stepped) → Goes h v t →
      (Fit (after h m.me v t) t.server → Goes (after h m.me v t) t.server.version (next t.server)) → Goes h v (followed t next)
  follows = walk.follows db m now starts Called Asked Answered Kept I moves

  lease_of : (h : History) (s : Server) → Fit h s → leased m s now ≡ true → Lease
  lease_of = walk.lease_of db m now starts Called Asked Answered Kept I moves

  in_phase : (h : History) (s : Server) (phase : PhaseRecord) → s.phase ≡ phase → Fit h s → Fit h (with_phase s phase)
  in_phase = walk.in_phase db m now starts Called Asked Answered Kept I moves

  no_flight : (h : History) (s : Server) → is_ready s.phase ≡ false → Fit h s → s.flight ≡ None
  no_flight = walk.no_flight db m now starts Called Asked Answered Kept I moves

  to_phase : (h : History) (s : Server) (phase : PhaseRecord) → is_ready phase ≡ false → Lease → is_ready s.phase ≡ false → Fit h s →
      I h (record (stand_of s) { phase = phase }) → Fit h (with_phase s phase)
  to_phase = walk.to_phase db m now starts Called Asked Answered Kept I moves

  begins : (h : History) (s : Server) → Lease → s.flight ≡ None → Fit h s → Fit h (polling m s now)
  begins = walk.begins db m now starts Called Asked Answered Kept I moves

  numbered : (phase : PhaseRecord) (p : PhaseRecord) (number : ℕ) → phase ≡ p → IsNumbered p number → IsNumbered phase number
  numbered = walk.numbered db m now starts Called Asked Answered Kept I moves

  settled_is : (h : History) (s : Server) → Fit h s → Goes h s.version (settled m s)
  settled_is = walk.settled_is db m now starts Called Asked Answered Kept I moves

  abbrev Pure : History → Server → Type 0
  Pure h s = walk.Pure db m now starts Called Asked Answered Kept I moves h s

  settled_with_turns_is : (h : History) (s : Server) (short : List Bool) → Fit h s → Pure h s →
      Goes h s.version (settled_with_turns (always db) m s now short)
  settled_with_turns_is = walk.settled_with_turns_is db m now starts Called Asked Answered Kept I moves

  -- ---- recovery

  spread_fits : (c : Stand) (host : Host) (u : Server) (number : ℕ) (old : Version) (has_old : Bool) → IsNumbered c.phase number →
      FitsTo m.hosts Asked c host (spread_to u number old has_old)
  spread_fits c host u number old true is = is
  spread_fits c host u number old false is = is

  answer_fits : (c : Stand) (host : Host) (u : Server) (poll : Polled) (old : Version) (v : Option Version) →
      IsNumbered c.phase poll.number → AllBodies (FitsTo m.hosts Asked c host) (spread_answer u poll old v)
  answer_fits c host u poll old None is = tt
  answer_fits c host u poll old (Some v) is = (spread_fits c host u poll.number old (version_eq v old) is, tt)

  -- the server stands in phase relabel, or is about to
  relabelled_is : (h : History) (s : Server) (poll : Polled) → Lease → Fit h (with_phase s (Relabel poll)) →
      Goes h s.version (relabelled m s poll now)
  relabelled_is h s poll lease fit =
      either h s.version (nat_lt s.version.epoch now) _ _
      (λ less. follows h s.version begun (settled m) (made (lt_true s.version.epoch now less)) (λ fit. settled_is _ begun.server fit))
      (λ _. turns h (with_phase s (Relabel poll)) [] fit tt)
    where
      begun : Stepped
      begun = relabelled_to m s poll (first_of_epoch now)

      made : s.version.epoch < now → Goes h s.version begun
      made past =
          makes h s begun.server (own_relabelling (first_of_epoch now)) begun.shown (lt_of_epoch s.version (first_of_epoch now) past) refl
          (record {
            keeps = moves.version.relabels h (stand_of (with_phase s (Relabel poll))) poll lease refl past fit.keeps;
            same = fit.same;
            held = λ _. lease;
            leads = tt;
            flight = λ f is. absurd (not_both s.flight f (no_flight h (with_phase s (Relabel poll)) refl fit) is);
            level = tt;
            beacon = fit.beacon;
            calls = fit.calls;
          })
          (each_fits m Asked (stand_of begun.server) _
          (λ host k. answer_fits (stand_of begun.server) host begun.server poll s.version (entry_at poll.answers k) refl))

  -- the server stands in this poll, or is about to
  polled_is : (h : History) (s : Server) (poll : Polled) → Lease → Fit h (with_phase s (Poll poll)) → Goes h s.version (polled m s poll now)
  polled_is h s poll lease fit =
      let best = best_answer poll in
      either h s.version (is_majority (cell_size m) (map is_some poll.answers)) _ _
      (λ most. either h s.version (version_lt s.version best) _ _
      (λ less. turns h (with_phase s (Fetch poll best (first_with best poll.answers))) _
      (record {
        keeps =
            moves.poll.fetches h (stand_of (with_phase s (Poll poll))) poll (first_with best poll.answers) lease refl most less fit.keeps;
        same = fit.same;
        held = λ _. lease;
        leads = fit.leads;
        flight = λ f is. absurd (not_both s.flight f (no_flight h (with_phase s (Poll poll)) refl fit) is);
        level = tt;
        beacon = fit.beacon;
        calls = fit.calls;
      }) ((refl, refl), tt))
      (λ least. relabelled_is h s poll lease
      (record {
        keeps = moves.poll.suffices h (stand_of (with_phase s (Poll poll))) poll lease refl most least fit.keeps;
        same = fit.same;
        held = λ _. lease;
        leads = fit.leads;
        flight = λ f is. absurd (not_both s.flight f (no_flight h (with_phase s (Poll poll)) refl fit) is);
        level = tt;
        beacon = fit.beacon;
        calls = fit.calls;
      })))
      (λ _. turns h (with_phase s (Poll poll)) [] fit tt)

  poll_asked_is : (h : History) (s : Server) (poll : Polled) → s.phase ≡ Poll poll → Lease → Fit h s →
      Goes h s.version (poll_asked m s poll now)
  poll_asked_is h s poll at lease fit =
      follows h s.version (showing s (asks_versions m poll.number (has_answered poll))) (λ after. polled m after poll now)
      (turns h s _ fit
      (each_fits m Asked (stand_of s) _
      (λ host k. bodies_if (FitsTo m.hosts Asked (stand_of s) host) (has_answered poll k) [] _ tt
      (numbered s.phase (Poll poll) poll.number at refl, tt))))
      (λ fit. polled_is _ s poll lease (in_phase _ s (Poll poll) at fit))

  poll_begun_is : (h : History) (s : Server) → Lease → is_ready s.phase ≡ false → Fit h s → Goes h s.version (poll_begun m s now)
  poll_begun_is h s lease idle fit =
      poll_asked_is h (polling m s now) (new_poll m s now) refl lease (begins h s lease (no_flight h s idle fit) fit)

  again_fits : (c : Stand) (host : Host) (s : Server) (poll : Polled) (announced : Version) (f : Option Flight) →
      IsNumbered c.phase poll.number → AllBodies (FitsTo m.hosts Asked c host) (spread_bodies s poll announced f)
  again_fits c host s poll announced None is = (is, tt)
  again_fits c host s poll announced (Some f) is = write_fits m Asked c host announced s.version (text_of f.changes)

  again_is : (h : History) (s : Server) (poll : Polled) (spread : Spread) (announced : Version) → IsNumbered s.phase poll.number →
      Fit h s → Goes h s.version (spread_again m s poll spread announced)
  again_is h s poll spread announced is fit =
      turns h s _ fit
      (each_fits m Asked (stand_of s) _
      (λ host k. bodies_if (FitsTo m.hosts Asked (stand_of s) host) (is_marked spread.holders k) [] _ tt
      (again_fits (stand_of s) host s poll announced s.flight is)))

  pub recovered_is : (h : History) (s : Server) (phase : PhaseRecord) → s.phase ≡ phase → Fit h s → Goes h s.version (recovered m s now phase)
  recovered_is h s NoPhase at fit =
      either h s.version (leased m s now) _ _ (λ is. poll_begun_is h s (lease_of h s fit is) (ap is_ready at) fit) (λ _. rests h s fit)
  recovered_is h s (Poll poll) at fit = poll_asked_is h s poll at (fit.held (ap is_held at)) fit
  recovered_is h s (Fetch poll best k) at fit =
      either h s.version (nat_lt (poll.number + SMALLTIME) now) _ _ (λ _. poll_begun_is h s (fit.held (ap is_held at)) (ap is_ready at) fit)
      (λ _. turns h s _ fit ((refl, numbered s.phase (Fetch poll best k) poll.number at refl), tt))
  recovered_is h s (Relabel poll) at fit = relabelled_is h s poll (fit.held (ap is_held at)) (in_phase h s (Relabel poll) at fit)
  recovered_is h s (Send poll spread) at fit =
      follows h s.version (spread_again m s poll spread s.version) (settled m)
      (again_is h s poll spread s.version (numbered s.phase (Send poll spread) poll.number at refl) fit) (λ fit. settled_is _ s fit)
  recovered_is h s (Ready poll spread announced) at fit =
      again_is h s poll spread announced (numbered s.phase (Ready poll spread announced) poll.number at refl) fit

  -- ---- pieces

  next_sent_is : (h : History) (s : Server) (host : Host) (poll : Polled) (version : Version) (next : ℕ) (f : Option Flight) →
      IsNumbered s.phase poll.number → Fit h s → Goes h s.version (next_sent m s host poll version next f)
  next_sent_is h s host poll version next None is fit =
      either h s.version (version_eq version s.version && nat_lt next (length s.image)) _ _
      (λ _. turns h s _ fit ((refl, is), tt)) (λ _. rests h s fit)
  next_sent_is h s host poll version next (Some f) is fit = rests h s fit

  pub piece_kept_is : (h : History) (s : Server) (host : Host) (version : Version) (next : ℕ) (phase : PhaseRecord) → s.phase ≡ phase →
      Fit h s → Goes h s.version (piece_kept_received m s host version next phase)
  piece_kept_is h s host version next NoPhase at fit = rests h s fit
  piece_kept_is h s host version next (Poll poll) at fit = rests h s fit
  piece_kept_is h s host version next (Fetch poll best k) at fit = rests h s fit
  piece_kept_is h s host version next (Relabel poll) at fit = rests h s fit
  piece_kept_is h s host version next (Send poll spread) at fit =
      next_sent_is h s host poll version next s.flight (numbered s.phase (Send poll spread) poll.number at refl) fit
  piece_kept_is h s host version next (Ready poll spread announced) at fit =
      next_sent_is h s host poll version next s.flight (numbered s.phase (Ready poll spread announced) poll.number at refl) fit

  pub installed_is : (h : History) (s : Server) (version : Version) (bytes : List ℕ) → is_sending s.phase ≡ false →
      version_lt s.version version ≡ true → Fit h s → Goes h s.version (installed s version bytes)
  installed_is h s version bytes idle less fit =
      makes h s (with_database s version bytes) (record { call = durables.Install version bytes; reason = Received }) [] less refl
      (record {
        keeps = moves.version.rises h (stand_of s) version idle less fit.keeps;
        same = fit.same;
        held = fit.held;
        leads = tt;
        flight = none_made db h.book version s.phase s.flight (no_flight h s (not_ready s.phase idle) fit);
        level = level_idle version s.phase s.flight (not_ready s.phase idle);
        beacon = fit.beacon;
        calls = fit.calls;
      }) tt

  -- a fetch is over
  fetched_is : (h : History) (s : Server) (poll : Polled) (best : Version) (from : ℕ) → s.phase ≡ Fetch poll best from → Lease →
      version_lt s.version best ≡ false → Fit h s → Goes h s.version (relabelled m s poll now)
  fetched_is h s poll best from at lease least fit =
      relabelled_is h s poll lease
      (to_phase h s (Relabel poll) refl lease (ap is_ready at) fit (moves.poll.fetched h (stand_of s) poll best from lease at least fit.keeps))

  fetch_is : (h : History) (s : Server) (poll : Polled) (best : Version) (from : ℕ) (text : Option ReceivedText) →
      s.phase ≡ Fetch poll best from → Lease → Fit h s → Goes h s.version (fetch_went_on m s now poll best from text)
  fetch_is h s poll best from None at lease fit = rests h s fit
  fetch_is h s poll best from (Some text) at lease fit =
      either h s.version (is_whole text) _ _
      (λ _. cond_both (version_lt s.version best) (installed s best text.bytes) (quiet s)
      (λ (t : Stepped). Goes h s.version (followed t (λ after. relabelled m after poll now)))
      (λ less. follows h s.version (installed s best text.bytes) (λ after. relabelled m after poll now)
      (installed_is h s best text.bytes (ap is_sending at) less fit)
      (λ fit. fetched_is _ (with_database s best text.bytes) poll best from at lease (not_itself best) fit))
      (λ least. follows h s.version (quiet s) (λ after. relabelled m after poll now) (rests h s fit)
      (λ fit. fetched_is _ s poll best from at lease least fit)))
      (λ _. turns h (record s { received = Some text }) _
      (record {
        keeps = fit.keeps;
        same = fit.same;
        held = fit.held;
        leads = fit.leads;
        flight = fit.flight;
        level = fit.level;
        beacon = fit.beacon;
        calls = fit.calls;
      })
      ((refl, numbered s.phase (Fetch poll best from) poll.number at refl), tt))

  pub piece_received_is : (h : History) (s : Server) (k number : ℕ) (version : Version) (total at : ℕ) (bytes : List ℕ) (phase : PhaseRecord) →
      s.phase ≡ phase → Fit h s → Goes h s.version (piece_received m s now k number version total at bytes phase)
  piece_received_is h s k number version total at bytes NoPhase is fit = rests h s fit
  piece_received_is h s k number version total at bytes (Poll poll) is fit = rests h s fit
  piece_received_is h s k number version total at bytes (Fetch poll best from) is fit =
      either h s.version (k == from && number == poll.number && version_eq version best) _ _
      (λ _. fetch_is h s poll best from (text_with (bytes_received s.received == 0) k version total at bytes s.received) is
      (fit.held (ap is_held is)) fit)
      (λ _. rests h s fit)
  piece_received_is h s k number version total at bytes (Relabel poll) is fit = rests h s fit
  piece_received_is h s k number version total at bytes (Send poll spread) is fit = rests h s fit
  piece_received_is h s k number version total at bytes (Ready poll spread announced) is fit = rests h s fit

  -- ---- holders that are told

  holder_is : (h : History) (s : Server) (k : ℕ) (version : Version) (short : List Bool) → Kept k version →
      version_eq version s.version ≡ true → Fit h s → Pure h s → Goes h s.version (holder_added (always db) m s now k short)
  holder_is h s k version short kept same fit pure =
      settled_with_turns_is h (with_phase s (held_by s.phase k)) short
      (record {
        keeps =
            moves.version.holds h (stand_of s) k (subst (Kept k) (same_of_eq version s.version same) kept) fit.keeps;
        same = fit.same;
        held = λ is. fit.held (sym (held_held s.phase k) ∙ is);
        leads = fit.leads;
        flight = λ f is. (
          ready_held s.phase k ∙ (fit.flight f is).0,
          (fit.flight f is).1,
          flown_held db h.book s.version s.phase k f (fit.flight f is).2,
        );
        level = level_held s.version s.phase k s.flight fit.level;
        beacon = fit.beacon;
        calls = fit.calls;
      }) pure

  lacking_is : (h : History) (s : Server) (host : Host) (poll : Polled) (spread : Spread) (version : Version) (f : Option Flight) →
      IsNumbered s.phase poll.number → Fit h s → Goes h s.version (lacking_sent m s host poll spread version f)
  lacking_is h s host poll spread version None is fit =
      turns h s _ fit ((refl, spread_fits (stand_of s) host s poll.number spread.old _ is), tt)
  lacking_is h s host poll spread version (Some f) is fit = rests h s fit

  told_is : (h : History) (s : Server) (host : Host) (k : ℕ) (poll : Polled) (spread : Spread) (number : ℕ) (version : Version)
      (short : List Bool) → Kept k version → IsNumbered s.phase poll.number → Fit h s → Pure h s →
      Goes h s.version (told_to_spread (always db) m s now host k poll spread number version short)
  told_is h s host k poll spread number version short kept is fit pure =
      either h s.version (number == poll.number) _ _
      (λ _. either h s.version (version_eq version s.version) _ _ (λ same. holder_is h s k version short kept same fit pure)
      (λ _. lacking_is h s host poll spread version s.flight is fit))
      (λ _. rests h s fit)

  pub version_told_is : (h : History) (s : Server) (host : Host) (k number : ℕ) (version : Version) (short : List Bool)
      (phase : PhaseRecord) →
      Answered k number version × Kept k version → s.phase ≡ phase → Fit h s → Pure h s →
      Goes h s.version (version_is_received (always db) m s now host k number version short phase)
  version_told_is h s host k number version short NoPhase brings at fit pure = rests h s fit
  version_told_is h s host k number version short (Poll poll) brings at fit pure =
      either h s.version (number == poll.number) _ _
      (λ same. polled_is h s (with_answer poll k version) (fit.held (ap is_held at))
      (to_phase h s (Poll (with_answer poll k version)) refl (fit.held (ap is_held at)) (ap is_ready at) fit
      (moves.poll.answers h (stand_of s) poll k version (fit.held (ap is_held at)) at
      (subst (λ (n : ℕ). Answered k n version) (eq_true number poll.number same) brings.0) fit.keeps)))
      (λ _. rests h s fit)
  version_told_is h s host k number version short (Fetch poll best from) brings at fit pure =
      either h s.version (from == k && not (version_eq version best)) _ _
      (λ _. turns h (polling m s now) [] (begins h s (fit.held (ap is_held at)) (no_flight h s (ap is_ready at) fit) fit) tt) (λ _. rests h s fit)
  version_told_is h s host k number version short (Relabel poll) brings at fit pure = rests h s fit
  version_told_is h s host k number version short (Send poll spread) brings at fit pure =
      told_is h s host k poll spread number version short brings.1 (numbered s.phase (Send poll spread) poll.number at refl) fit pure
  version_told_is h s host k number version short (Ready poll spread announced) brings at fit pure =
      told_is h s host k poll spread number version short brings.1 (numbered s.phase (Ready poll spread announced) poll.number at refl) fit pure

  pub version_kept_is : (h : History) (s : Server) (k : ℕ) (version : Version) (short : List Bool) (phase : PhaseRecord) → Kept k version →
      Fit h s → Pure h s → Goes h s.version (version_kept_received (always db) m s now k version short phase)
  version_kept_is h s k version short NoPhase kept fit pure = rests h s fit
  version_kept_is h s k version short (Poll poll) kept fit pure = rests h s fit
  version_kept_is h s k version short (Fetch poll best from) kept fit pure = rests h s fit
  version_kept_is h s k version short (Relabel poll) kept fit pure = rests h s fit
  version_kept_is h s k version short (Send poll spread) kept fit pure =
      either h s.version (version_eq version s.version) _ _ (λ same. holder_is h s k version short kept same fit pure) (λ _. rests h s fit)
  version_kept_is h s k version short (Ready poll spread announced) kept fit pure =
      either h s.version (version_eq version s.version) _ _ (λ same. holder_is h s k version short kept same fit pure) (λ _. rests h s fit)
