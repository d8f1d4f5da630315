-- What each move keeps, the rules of recovery keep.
use Rattle.std.proofs.Common.{Bool, true, false, cond, ◌==◌, ◌≡◌, ℕ, ◌+◌, List, [], ◌∷◌, length, map, refl, sym, ap, subst, ◌∙◌}
use Rattle.std.proofs.lemmas.Bool.{cond_both}
use Rattle.std.specs.Prelude.{Option, Some, None, ◌&&◌, not, nat_lt, is_some}
use Rattle.ubik_types.specs.declared.hosts.Host.{Host}
use Rattle.ubik_types.specs.declared.limits.TheConstants.{SMALLTIME}
use Rattle.ubik_types.specs.declared.versions.Version.{Version}
use Rattle.ubik_types.specs.Lease.{is_in_lease}
use Rattle.ubik_types.specs.Phase.{Polled, Spread, PhaseRecord, NoPhase, Poll, Fetch, Relabel, Send, Ready}
use Rattle.ubik_types.specs.Quorum.{is_majority}
use Rattle.ubik_types.specs.Version.{version_lt, version_eq}
use Rattle.ubik_calls.specs.declared.packets.Body.{Body}
use Rattle.ubik_calls.specs.declared.packets.Body.TheVariants as body
use Rattle.db_image.specs.Database.{Database}
use Rattle.cell_model.specs.Book.{Book, with_version}
use Rattle.cell_model.specs.Durable.{Durable, Made, Own_relabelling, Committed, Received, durable_after, version_after}
use Rattle.cell_model.specs.Durable as durables
use Rattle.cell_model.specs.Evaluating.{always}
use Rattle.cell_model.specs.Node.{Server, ReceivedText, Flight}
use Rattle.cell_model.specs.Polls.{new_poll, polling, with_answer, best_answer, first_with, entry_at, is_marked}
use Rattle.cell_model.specs.Receiver.{is_sending}
use Rattle.cell_model.specs.Recovery.{asks_versions, has_answered, first_of_epoch, own_relabelling, relabelled_to, relabelled, polled}
use Rattle.cell_model.specs.Recovery.{poll_asked, spread_to, spread_answer, spread_bodies}
use Rattle.cell_model.specs.Recovery.{poll_begun, bytes_received, spread_again, recovered, held_by, holder_added, lacking_sent}
use Rattle.cell_model.specs.Recovery.{told_to_spread, version_is_received, version_kept_received, next_sent, piece_kept_received, text_with}
use Rattle.cell_model.specs.Recovery.{is_whole, installed, fetch_installed, fetch_went_on, piece_received}
use Rattle.cell_model.specs.Step.{Member, cell_size, Shown, Stepped, quiet, showing, followed, leased}
use Rattle.cell_model.specs.Step.{is_ready, with_phase, with_database}
use Rattle.cell_model.specs.Writes.{settled}
use Rattle.cell_model.specs.Writes.{settled_with_turns}
use Rattle.cell_laws.proofs.Parts.{lt_true, and_both}
use Rattle.cell_pages.specs.Growth.{Grew, durable_of, book_with}
use Rattle.cell_pages.specs.Moves.{AllBodies, Moves}
use Rattle.cell_pages.specs.Passes.{is_held}
use Rattle.cell_pages.specs.Says.{AllSay}
use Rattle.cell_pages.proofs.Leading.{grew_none, bodies_if, each_says}
use Rattle.cell_pages.proofs.Walk as walk
use Rattle.cell_pages.proofs.Versions.{same_of_eq, text_is_of}

module _ (db : Database) (m : Member) (now : ℕ) (starts : List (Option ℕ)) (F : Book → Server → Type 0) (D : Book → Durable → Type 0)
    (P : Book → Body → Type 0) (moves : Moves db m now (is_in_lease (cell_size m) starts now) F D P) where
  abbrev in_lease : Bool
  in_lease = is_in_lease (cell_size m) starts now

  abbrev Lease : Type 0
  Lease = is_in_lease (cell_size m) starts now ≡ true

  abbrev Fit : Book → Server → Type 0
  Fit book s = walk.Fit db m now starts F D P moves book s

  abbrev Goes : Book → Server → Stepped → Type 0
  Goes book s t = walk.Goes db m now starts F D P moves book s t

  either : (book : Book) (s : Server) (test : Bool) (x y : Stepped) → (test ≡ true → Goes book s x) → (test ≡ false → Goes book s y) →
      Goes book s (cond test x y)
  either = walk.either db m now starts F D P moves

  turns : (book : Book) (s u : Server) (shown : List Shown) → durable_of s ≡ durable_of u → Fit book s → Fit book u →
      AllSay (P book) shown → Goes book s (showing u shown)
  turns = walk.turns db m now starts F D P moves

  shows : (book : Book) (s : Server) (shown : List Shown) → Fit book s → AllSay (P book) shown → Goes book s (showing s shown)
  shows = walk.shows db m now starts F D P moves

  rests : (book : Book) (s : Server) → Fit book s → Goes book s (quiet s)
  rests = walk.rests db m now starts F D P moves

  makes : (book later : Book) (s u : Server) (made : Made) (shown : List Shown) → book_with m.me book (durable_of s) made ≡ later →
      durable_after (durable_of s) made.call ≡ durable_of u → Grew in_lease m.me book later → Fit book s → Fit later u →
      AllSay (P later) shown →
      Goes book s (record { server = u; calls = made ∷ []; shown = shown })
  makes = walk.makes db m now starts F D P moves

  before : (book : Book) (s u : Server) (t : Stepped) → durable_of u ≡ durable_of s → Goes book u t → Goes book s t
  before = walk.before db m now starts F D P moves

  follows : (book : Book) (s : Server) (t : Stepped) (next : Server → Stepped) → Goes book s t →
      ((later : Book) → Grew in_lease m.me book later → Fit later t.server → Goes later t.server (next t.server)) →
      Goes book s (followed t next)
  follows = walk.follows db m now starts F D P moves

  lease_of : (book : Book) (s : Server) → Fit book s → leased m s now ≡ true → Lease
  lease_of = walk.lease_of db m now starts F D P moves

  leaves : (book : Book) (s : Server) (phase : PhaseRecord) → is_sending phase ≡ false → s.flight ≡ None → Lease → Fit book s →
      Fit book (with_phase s phase)
  leaves = walk.leaves db m now starts F D P moves

  no_flight : (book : Book) (s : Server) → is_sending s.phase ≡ false → Fit book s → s.flight ≡ None
  no_flight = walk.no_flight db m now starts F D P moves

  settled_is : (book : Book) (s : Server) → Fit book s → Goes book s (settled m s)
  settled_is = walk.settled_is db m now starts F D P moves

  settled_with_turns_is : (book : Book) (s : Server) (short : List Bool) → Fit book s → Goes book s (settled_with_turns (always db) m s now short)
  settled_with_turns_is = walk.settled_with_turns_is db m now starts F D P moves

  -- ---- recovery

  -- the own image, or the new version alone, to a server that answered
  spread_says : (book : Book) (s : Server) (number : ℕ) (poll : Polled) (old : Version) (holders : List Bool) (has_old : Bool) →
      s.phase ≡ Send poll (record { old = old; holders = holders }) → (s.version.counter == 1) ≡ true → Fit book s →
      P book (spread_to s number old has_old)
  spread_says book s number poll old holders true at first fit =
      moves.packet.set_in_send book s number poll (record { old = old; holders = holders }) at first fit.keeps
  spread_says book s number poll old holders false at first fit = moves.packet.sent book s number 0 fit.keeps

  answer_says : (book : Book) (s : Server) (poll : Polled) (old : Version) (holders : List Bool) (v : Option Version) →
      s.phase ≡ Send poll (record { old = old; holders = holders }) → (s.version.counter == 1) ≡ true → Fit book s →
      AllBodies (P book) (spread_answer s poll old v)
  answer_says book s poll old holders None at first fit = tt
  answer_says book s poll old holders (Some v) at first fit =
      (spread_says book s poll.number poll old holders (version_eq v old) at first fit, tt)

  relabelled_is : (book : Book) (s : Server) (poll : Polled) → is_sending s.phase ≡ false → Lease → Fit book s →
      Goes book s (relabelled m s poll now)
  relabelled_is book s poll idle lease fit =
      either book s (nat_lt s.version.epoch now) _ _
      (λ less. follows book s begun (settled m) (made less) (λ later grew fit. settled_is later begun.server fit))
      (λ _. turns book s (with_phase s (Relabel poll)) [] refl fit
      (leaves book s (Relabel poll) refl (no_flight book s idle fit) lease fit) tt)
    where
      begun : Stepped
      begun = relabelled_to m s poll (first_of_epoch now)

      later : Book
      later = with_version book m.me s.version (first_of_epoch now) Own_relabelling

      made : nat_lt s.version.epoch now ≡ true → Goes book s begun
      made less =
          let both : Grew in_lease m.me book later × F later begun.server =
          moves.own.relabels book s poll lease idle (lt_true s.version.epoch now less) fit.keeps in
          let after : Fit later begun.server = record { keeps = both.1; same = fit.same; held = λ _. lease } in
          makes book later s begun.server (own_relabelling (first_of_epoch now)) begun.shown refl refl both.0 fit after
          (each_says (P later) m _ (λ k. answer_says later begun.server poll s.version _ (entry_at poll.answers k) refl refl after))

  polled_is : (book : Book) (s : Server) (poll : Polled) → is_sending s.phase ≡ false → Lease → Fit book s →
      Goes book s (polled m s poll now)
  polled_is book s poll idle lease fit =
      let best = best_answer poll in
      let none : s.flight ≡ None = no_flight book s idle fit in
      either book s (is_majority (cell_size m) (map is_some poll.answers)) _ _
      (λ _. either book s (version_lt s.version best) _ _
      (λ _. turns book s (with_phase s (Fetch poll best (first_with best poll.answers))) _ refl fit
      (leaves book s (Fetch poll best (first_with best poll.answers)) refl none lease fit)
      (moves.packet.plain book (body.GetPiece poll.number best 0) tt, tt))
      (λ _. relabelled_is book s poll idle lease fit))
      (λ _. turns book s (with_phase s (Poll poll)) [] refl fit (leaves book s (Poll poll) refl none lease fit) tt)

  poll_asked_is : (book : Book) (s : Server) (poll : Polled) → is_sending s.phase ≡ false → Lease → Fit book s →
      Goes book s (poll_asked m s poll now)
  poll_asked_is book s poll idle lease fit =
      follows book s (showing s (asks_versions m poll.number (has_answered poll))) (λ after. polled m after poll now)
      (shows book s _ fit
      (each_says (P book) m _
      (λ k. bodies_if (P book) (has_answered poll k) [] _ tt (moves.packet.plain book (body.GetVersion poll.number) tt, tt))))
      (λ later grew fit. polled_is later s poll idle lease fit)

  poll_begun_is : (book : Book) (s : Server) → is_sending s.phase ≡ false → Lease → Fit book s → Goes book s (poll_begun m s now)
  poll_begun_is book s idle lease fit =
      before book s (polling m s now) _ refl
      (poll_asked_is book (polling m s now) (new_poll m s now) refl lease
      (leaves book s (Poll (new_poll m s now)) refl (no_flight book s idle fit) lease fit))

  -- what goes again to a server that is no holder
  again_in_ready : (book : Book) (s : Server) (poll : Polled) (spread : Spread) (announced : Version) (f : Option Flight) →
      s.phase ≡ Ready poll spread announced → s.flight ≡ f → Fit book s → AllBodies (P book) (spread_bodies s poll announced f)
  again_in_ready book s poll spread announced None at is fit = (moves.packet.plain book (body.GetVersion poll.number) tt, tt)
  again_in_ready book s poll spread announced (Some f) at is fit = moves.packet.write book s poll spread announced f at is fit.keeps

  again_without : (book : Book) (s : Server) (poll : Polled) (announced : Version) (f : Option Flight) → f ≡ None →
      AllBodies (P book) (spread_bodies s poll announced f)
  again_without book s poll announced None is = (moves.packet.plain book (body.GetVersion poll.number) tt, tt)
  again_without book s poll announced (Some f) is = absurd (cc)

  again_is : (book : Book) (s : Server) (poll : Polled) (spread : Spread) (announced : Version) → Fit book s →
      AllBodies (P book) (spread_bodies s poll announced s.flight) → Goes book s (spread_again m s poll spread announced)
  again_is book s poll spread announced fit all =
      shows book s _ fit (each_says (P book) m _ (λ k. bodies_if (P book) (is_marked spread.holders k) [] _ tt all))

  pub recovered_is : (book : Book) (s : Server) (phase : PhaseRecord) → s.phase ≡ phase → Fit book s → Goes book s (recovered m s now phase)
  recovered_is book s NoPhase at fit =
      either book s (leased m s now) _ _ (λ is. poll_begun_is book s (ap is_sending at) (lease_of book s fit is) fit)
      (λ _. rests book s fit)
  recovered_is book s (Poll poll) at fit = poll_asked_is book s poll (ap is_sending at) (fit.held (ap is_held at)) fit
  recovered_is book s (Fetch poll best k) at fit =
      either book s (nat_lt (poll.number + SMALLTIME) now) _ _
      (λ _. poll_begun_is book s (ap is_sending at) (fit.held (ap is_held at)) fit)
      (λ _. shows book s _ fit (moves.packet.plain book (body.GetPiece poll.number best (bytes_received s.received)) tt, tt))
  recovered_is book s (Relabel poll) at fit = relabelled_is book s poll (ap is_sending at) (fit.held (ap is_held at)) fit
  recovered_is book s (Send poll spread) at fit =
      follows book s (spread_again m s poll spread s.version) (settled m)
      (again_is book s poll spread s.version fit
      (again_without book s poll s.version s.flight (moves.phase.no_flight book s (ap is_ready at) fit.keeps)))
      (λ later grew fit. settled_is later s fit)
  recovered_is book s (Ready poll spread announced) at fit =
      again_is book s poll spread announced fit (again_in_ready book s poll spread announced s.flight at refl fit)

  -- ---- pieces

  next_sent_is : (book : Book) (s : Server) (host : Host) (poll : Polled) (version : Version) (next : ℕ) (f : Option Flight) → Fit book s →
      Goes book s (next_sent m s host poll version next f)
  next_sent_is book s host poll version next None fit =
      either book s (version_eq version s.version && nat_lt next (length s.image)) _ _
      (λ _. shows book s _ fit (moves.packet.sent book s poll.number next fit.keeps, tt)) (λ _. rests book s fit)
  next_sent_is book s host poll version next (Some f) fit = rests book s fit

  pub piece_kept_is : (book : Book) (s : Server) (host : Host) (version : Version) (next : ℕ) (phase : PhaseRecord) → Fit book s →
      Goes book s (piece_kept_received m s host version next phase)
  piece_kept_is book s host version next NoPhase fit = rests book s fit
  piece_kept_is book s host version next (Poll poll) fit = rests book s fit
  piece_kept_is book s host version next (Fetch poll best k) fit = rests book s fit
  piece_kept_is book s host version next (Relabel poll) fit = rests book s fit
  piece_kept_is book s host version next (Send poll spread) fit = next_sent_is book s host poll version next s.flight fit
  piece_kept_is book s host version next (Ready poll spread announced) fit = next_sent_is book s host poll version next s.flight fit

  pub texts : (book : Book) (s : Server) (may_begin : Bool) (k poll : ℕ) (version : Version) (total at : ℕ) (bytes : List ℕ)
      (text : ReceivedText) → P book (body.SendPiece poll version total at bytes) →
      text_with may_begin k version total at bytes s.received ≡ Some text → Fit book s → Fit book (record s { received = Some text })
  texts book s may_begin k poll version total at bytes text says is fit = record {
    keeps = moves.field.texts book s may_begin k poll version total at bytes text says is fit.keeps;
    same = fit.same;
    held = fit.held;
  }

  pub installed_is : (book : Book) (s : Server) (may_begin : Bool) (k poll : ℕ) (version : Version) (total at : ℕ) (bytes : List ℕ)
      (text : ReceivedText) → P book (body.SendPiece poll version total at bytes) →
      text_with may_begin k version total at bytes s.received ≡ Some text → is_sending s.phase ≡ false → is_whole text ≡ true →
      version_lt s.version text.version ≡ true → Fit book s → Goes book s (installed s text.version text.bytes)
  installed_is book s may_begin k poll version total at bytes text says is idle whole less fit =
      makes book book s (with_database s text.version text.bytes)
      (record { call = durables.Install text.version text.bytes; reason = Received }) [] refl refl (grew_none in_lease m.me book) fit
      (record {
        keeps = moves.received.installs book s may_begin k poll version total at bytes text says is idle whole less fit.keeps;
        same = fit.same;
        held = fit.held;
      }) tt

  -- a fetch is over: the phase is the same where the image is installed
  fetched_idle : (s : Server) (best : Version) (image : List ℕ) → is_sending s.phase ≡ false →
      is_sending (fetch_installed s best image).server.phase ≡ false
  fetched_idle s best image idle =
      cond_both (version_lt s.version best) (installed s best image) (quiet s) (λ (t : Stepped). is_sending t.server.phase ≡ false)
      (λ _. idle) (λ _. idle)

  fetch_is : (book : Book) (s : Server) (poll : Polled) (best : Version) (from : ℕ) (may_begin : Bool) (k number : ℕ) (total at : ℕ)
      (bytes : List ℕ) (text : Option ReceivedText) → P book (body.SendPiece number best total at bytes) →
      text_with may_begin k best total at bytes s.received ≡ text → is_sending s.phase ≡ false → Lease → Fit book s →
      Goes book s (fetch_went_on m s now poll best from text)
  fetch_is book s poll best from may_begin k number total at bytes None says is idle lease fit = rests book s fit
  fetch_is book s poll best from may_begin k number total at bytes (Some text) says is idle lease fit =
      cond_both (is_whole text) (followed (fetch_installed s best text.bytes) (λ after. relabelled m after poll now))
      (showing (record s { received = Some text }) _) (Goes book s)
      (λ whole. follows book s (fetch_installed s best text.bytes) (λ after. relabelled m after poll now)
      (either book s (version_lt s.version best) _ _ (λ less. install whole less) (λ _. rests book s fit))
      (λ later grew fit. relabelled_is later (fetch_installed s best text.bytes).server poll
      (fetched_idle s best text.bytes idle) lease fit))
      (λ _. turns book s (record s { received = Some text }) _ refl fit
      (texts book s may_begin k number best total at bytes text says is fit)
      (moves.packet.plain book (body.GetPiece poll.number best (length text.bytes)) tt, tt))
    where
      version_is : text.version ≡ best
      version_is = text_is_of may_begin k best total at bytes s.received text is

      install : is_whole text ≡ true → version_lt s.version best ≡ true → Goes book s (installed s best text.bytes)
      install whole less =
          subst (λ (v : Version). Goes book s (installed s v text.bytes)) version_is
          (installed_is book s may_begin k number best total at bytes text says is idle whole
          (subst (λ (v : Version). version_lt s.version v ≡ true) (sym version_is) less) fit)

  pub piece_received_is : (book : Book) (s : Server) (k number : ℕ) (version : Version) (total at : ℕ) (bytes : List ℕ)
      (phase : PhaseRecord) →
      P book (body.Piece number version total at bytes) → s.phase ≡ phase → Fit book s →
      Goes book s (piece_received m s now k number version total at bytes phase)
  piece_received_is book s k number version total at bytes NoPhase says is fit = rests book s fit
  piece_received_is book s k number version total at bytes (Poll poll) says is fit = rests book s fit
  piece_received_is book s k number version total at bytes (Fetch poll best from) says is fit =
      either book s (k == from && number == poll.number && version_eq version best) _ _
      (λ fits. let same : version ≡ best = same_of_eq version best (and_both (k == from && number == poll.number) _ fits).1 in goes same)
      (λ _. rests book s fit)
    where
      may : Bool
      may = bytes_received s.received == 0

      goes : version ≡ best → Goes book s (fetch_went_on m s now poll best from (text_with may k version total at bytes s.received))
      goes same =
          subst (λ (v : Version). Goes book s (fetch_went_on m s now poll best from (text_with may k v total at bytes s.received)))
          (sym same)
          (fetch_is book s poll best from may k number total at bytes (text_with may k best total at bytes s.received)
          (moves.packet.alike book number best total at bytes
          (subst (λ (v : Version). P book (body.Piece number v total at bytes)) same says))
          refl (ap is_sending is) (fit.held (ap is_held is)) fit)
  piece_received_is book s k number version total at bytes (Relabel poll) says is fit = rests book s fit
  piece_received_is book s k number version total at bytes (Send poll spread) says is fit = rests book s fit
  piece_received_is book s k number version total at bytes (Ready poll spread announced) says is fit = rests book s fit

  -- ---- holders that are told

  held_held : (phase : PhaseRecord) (k : ℕ) → is_held (held_by phase k) ≡ is_held phase
  held_held NoPhase k = refl
  held_held (Poll poll) k = refl
  held_held (Fetch poll best host) k = refl
  held_held (Relabel poll) k = refl
  held_held (Send poll spread) k = refl
  held_held (Ready poll spread announced) k = refl

  holder_is : (book : Book) (s : Server) (k : ℕ) (short : List Bool) → Fit book s → Goes book s (holder_added (always db) m s now k short)
  holder_is book s k short fit =
      before book s (with_phase s (held_by s.phase k)) _ refl
      (settled_with_turns_is book (with_phase s (held_by s.phase k)) short
      (record {
        keeps = moves.phase.holds book s k fit.keeps;
        same = fit.same;
        held = λ is. fit.held (sym (held_held s.phase k) ∙ is);
      }))

  -- what a server lacks
  lacking_says : (book : Book) (s : Server) (number : ℕ) (old : Version) (has_old : Bool) →
      (has_old ≡ true → P book (body.SetVersion number old s.version)) → Fit book s → P book (spread_to s number old has_old)
  lacking_says book s number old true set fit = set refl
  lacking_says book s number old false set fit = moves.packet.sent book s number 0 fit.keeps

  lacking_is : (book : Book) (s : Server) (host : Host) (poll : Polled) (spread : Spread) (version : Version) (f : Option Flight) →
      ((s.version.counter == 1) ≡ true → P book (body.SetVersion poll.number spread.old s.version)) → Fit book s →
      Goes book s (lacking_sent m s host poll spread version f)
  lacking_is book s host poll spread version None set fit =
      shows book s _ fit (
        lacking_says book s poll.number spread.old (s.version.counter == 1 && version_eq version spread.old)
            (λ is. set (and_both (s.version.counter == 1) _ is).0) fit,
        tt,
      )
  lacking_is book s host poll spread version (Some f) set fit = rests book s fit

  told_is : (book : Book) (s : Server) (host : Host) (k : ℕ) (poll : Polled) (spread : Spread) (number : ℕ) (version : Version)
      (short : List Bool) → ((s.version.counter == 1) ≡ true → P book (body.SetVersion poll.number spread.old s.version)) → Fit book s →
      Goes book s (told_to_spread (always db) m s now host k poll spread number version short)
  told_is book s host k poll spread number version short set fit =
      either book s (number == poll.number) _ _
      (λ _. either book s (version_eq version s.version) _ _ (λ _. holder_is book s k short fit)
      (λ _. lacking_is book s host poll spread version s.flight set fit))
      (λ _. rests book s fit)

  pub version_told_is : (book : Book) (s : Server) (host : Host) (k number : ℕ) (version : Version) (short : List Bool)
      (phase : PhaseRecord) →
      s.phase ≡ phase → Fit book s → Goes book s (version_is_received (always db) m s now host k number version short phase)
  version_told_is book s host k number version short NoPhase at fit = rests book s fit
  version_told_is book s host k number version short (Poll poll) at fit =
      either book s (number == poll.number) _ _
      (λ _. polled_is book s (with_answer poll k version) (ap is_sending at) (fit.held (ap is_held at)) fit) (λ _. rests book s fit)
  version_told_is book s host k number version short (Fetch poll best from) at fit =
      either book s (from == k && not (version_eq version best)) _ _
      (λ _. turns book s (polling m s now) [] refl fit
      (leaves book s (Poll (new_poll m s now)) refl (no_flight book s (ap is_sending at) fit) (fit.held (ap is_held at)) fit) tt)
      (λ _. rests book s fit)
  version_told_is book s host k number version short (Relabel poll) at fit = rests book s fit
  version_told_is book s host k number version short (Send poll spread) at fit =
      told_is book s host k poll spread number version short
      (λ first. moves.packet.set_in_send book s poll.number poll spread at first fit.keeps) fit
  version_told_is book s host k number version short (Ready poll spread announced) at fit =
      told_is book s host k poll spread number version short
      (λ first. moves.packet.set_in_ready book s poll.number poll spread announced at first fit.keeps) fit

  pub version_kept_is : (book : Book) (s : Server) (k : ℕ) (version : Version) (short : List Bool) (phase : PhaseRecord) → Fit book s →
      Goes book s (version_kept_received (always db) m s now k version short phase)
  version_kept_is book s k version short NoPhase fit = rests book s fit
  version_kept_is book s k version short (Poll poll) fit = rests book s fit
  version_kept_is book s k version short (Fetch poll best from) fit = rests book s fit
  version_kept_is book s k version short (Relabel poll) fit = rests book s fit
  version_kept_is book s k version short (Send poll spread) fit =
      either book s (version_eq version s.version) _ _ (λ _. holder_is book s k short fit) (λ _. rests book s fit)
  version_kept_is book s k version short (Ready poll spread announced) fit =
      either book s (version_eq version s.version) _ _ (λ _. holder_is book s k short fit) (λ _. rests book s fit)
