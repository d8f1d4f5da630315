-- What is put out one behind the other, and durable calls that follow one another.
use Rattle.std.proofs.Common.{Bool, true, false, cond, ◌==◌, ◌≡◌, inr, ℕ, zero, suc, ◌+◌, List, [], ◌∷◌, ◌++◌, map, refl}
use Rattle.std.proofs.Common.{sym, ap, subst, ◌∙◌}
use Rattle.std.proofs.Common.{append_assoc}
use Rattle.std.proofs.lemmas.List.Elements.{filter_map-append}
use Rattle.std.specs.Prelude.{Option, Some, None}
use Rattle.ubik_types.specs.declared.hosts.Host.{Host}
use Rattle.ubik_types.specs.declared.phases.Phase.{Phase}
use Rattle.ubik_types.specs.declared.phases.Applied.TheVariants as applied
use Rattle.ubik_types.specs.declared.versions.Version.{Version}
use Rattle.ubik_types.specs.Version.{version_lt}
use Rattle.ubik_calls.specs.declared.packets.Body.{Body}
use Rattle.ubik_calls.specs.declared.packets.Packet.{Packet}
use Rattle.ubik_calls.specs.declared.replies.Reply.{Reply}
use Rattle.cell_model.specs.declared.events.Output.{Output}
use Rattle.cell_model.specs.declared.events.Output.TheVariants as output
use Rattle.cell_model.specs.Book.{Book, BookVersion, entered, with_version}
use Rattle.cell_model.specs.Durable.{Made, Transaction, Reason, Own_relabelling, Committed, Received, version_after}
use Rattle.cell_model.specs.KeptLaws.{IsUngiven}
use Rattle.cell_model.specs.Lapse.{no_quorum, flight_refused, waiting_refused, writes_refused}
use Rattle.cell_model.specs.Node.{Server, Flight, Waiting}
use Rattle.cell_model.specs.Step.{Member, Basis, Announced_image, Beacon_image, Commit_on, Evaluation, Shown, Stepped, packet_to}
use Rattle.cell_model.specs.Step.{sent, sends_from, sends_to_each}
use Rattle.cell_model.specs.Pieces.{piece_count}
use Rattle.cell_model.specs.Writes.{put_pieces, write_bodies}
use Rattle.cell_pages.proofs.Leading.{bodies_append}
use Rattle.ubik_calls.specs.declared.packets.Body.TheVariants as body
use Rattle.cell_model.specs.World.{Entry, entries_from, packet_of, packets_of}
use Rattle.cell_pages.specs.Moves.{AllBodies, transaction_of}
use Rattle.cell_orders.specs.Histories.{Stand, History, announced_in, announced_with, with_book, with_shown, after, IsBeside, FitsTo}
use Rattle.cell_orders.specs.Histories.{OutputFits, AllFit}
use Rattle.cell_orders.specs.Acknowledged.{IsAnnounced, IsMade, IsOkBy, IsOk, AllOks}

-- ---- durable calls

-- durable calls lead from a version to another one, each to a greater one
abbrev pub Rising : Version → List Made → Version → Type 0
Rising v [] last = v ≡ last
Rising v (made ∷ calls) last = (version_lt v (version_after made.call) ≡ true) × Rising (version_after made.call) calls last

pub rising_append : (v middle last : Version) (calls more : List Made) → Rising v calls middle → Rising middle more last →
    Rising v (calls ++ more) last
rising_append v middle last [] more first second = subst (λ (u : Version). Rising u more last) (sym first) second
rising_append v middle last (made ∷ calls) more first second =
    (first.0, rising_append (version_after made.call) middle last calls more first.1 second)

entered_append : (k : ℕ) (v middle : Version) (calls more : List Made) (book : Book) → Rising v calls middle →
    entered (entered book (entries_from k v calls)) (entries_from k middle more) ≡ entered book (entries_from k v (calls ++ more))
entered_append k v middle [] more book rising = ap (λ (u : Version). entered book (entries_from k u more)) (sym rising)
entered_append k v middle (made ∷ calls) more book rising =
    entered_append k (version_after made.call) middle calls more (with_version book k v (version_after made.call) made.reason) rising.1

announced_append : (shown more : List Shown) (before : List Version) →
    announced_with more (announced_with shown before) ≡ announced_with (shown ++ more) before
announced_append [] more before = refl
announced_append (one ∷ shown) more before = announced_append shown more (announced_in one.output before)

packets_append : (packets : List Packet) (shown more : List Shown) →
    (packets ++ packets_of shown) ++ packets_of more ≡ packets ++ packets_of (shown ++ more)
packets_append packets shown more =
    append_assoc packets (packets_of shown) (packets_of more)
    ∙ ap (λ (ps : List Packet). packets ++ ps) (sym (filter_map-append packet_of shown more))

same_history : (b c : Book) (v w : List Version) (p q : List Packet) → b ≡ c → v ≡ w → p ≡ q →
    ◌≡◌ {A = History} (record { book = b; announced = v; packets = p }) (record { book = c; announced = w; packets = q })
same_history b c v w p q book announced packets =
    ap (λ (b : Book). record { book = b; announced = v; packets = p }) book
    ∙ ap (λ (v : List Version). record { book = c; announced = v; packets = p }) announced
    ∙ ap (λ (p : List Packet). record { book = c; announced = w; packets = p }) packets

-- a step, and then the next
pub after_both : (h : History) (k : ℕ) (v middle : Version) (t u : Stepped) → Rising v t.calls middle →
    after (after h k v t) k middle u
    ≡ with_shown (with_book h (entered h.book (entries_from k v (t.calls ++ u.calls)))) (t.shown ++ u.shown)
after_both h k v middle t u rising =
    same_history (entered (entered h.book (entries_from k v t.calls)) (entries_from k middle u.calls))
    (entered h.book (entries_from k v (t.calls ++ u.calls)))
    (announced_with u.shown (announced_with t.shown h.announced)) (announced_with (t.shown ++ u.shown) h.announced)
    ((h.packets ++ packets_of t.shown) ++ packets_of u.shown) (h.packets ++ packets_of (t.shown ++ u.shown))
    (entered_append k v middle t.calls u.calls h.book rising) (announced_append t.shown u.shown h.announced)
    (packets_append h.packets t.shown u.shown)

-- ---- replies to commits

pub oks_append : (book : Book) (announced : List Version) (shown more : List Shown) → AllOks book announced shown →
    AllOks book announced more → AllOks book announced (shown ++ more)
oks_append book announced [] more all rest = rest
oks_append book announced (one ∷ shown) more all rest = (all.0, oks_append book announced shown more all.1 rest)

-- a reply that is for no commit
pub beside_ok : (book : Book) (announced : List Version) (e : Evaluation) (b : Basis) → IsBeside b → IsOkBy book announced e b
beside_ok book announced e (Announced_image version) is = tt
beside_ok book announced e (Beacon_image version) is = tt
beside_ok book announced e (Commit_on old new) is = absurd is

-- what fits answers no commit
pub fits_oks : (m : Member) (Asked : ℕ → ℕ → Type 0) (c : Stand) (book : Book) (announced : List Version) (shown : List Shown) →
    AllFit m Asked c shown → AllOks book announced shown
fits_oks m Asked c book announced [] all = tt
fits_oks m Asked c book announced (one ∷ shown) all =
    (by one.output one.evaluation all.0, fits_oks m Asked c book announced shown all.1)
  where
    by : (o : Output) (e : Option Evaluation) → OutputFits m Asked c o e → IsOk book announced o e
    by (output.Send packet) e fits = tt
    by (output.Reply id r) None fits = tt
    by (output.Reply id r) (Some e) fits = let none : Some e ≡ None = fits.0 in absurd (cc)
    by (output.Announce version) e fits = tt

-- so they are after more versions were made and announced
pub made_more : (book : Book) (b : BookVersion) (v : Version) (t : Transaction) → IsMade book v t → IsMade (b ∷ book) v t
made_more book b v t is = inr is

ok_more : (book later : Book) (announced after : List Version) (o : Output) (e : Option Evaluation) →
    ((v : Version) (t : Transaction) → IsMade book v t → IsMade later v t) →
    ((v : Version) → IsAnnounced announced v → IsAnnounced after v) → IsOk book announced o e → IsOk later after o e
ok_more book later announced after (output.Send packet) e made more is = tt
ok_more book later announced after (output.Announce version) e made more is = tt
ok_more book later announced after (output.Reply id r) None made more is = tt
ok_more book later announced after (output.Reply id r) (Some e) made more is = by e.basis is
  where
    by : (b : Basis) → IsOkBy book announced e b → IsOkBy later after e b
    by (Announced_image version) is = tt
    by (Beacon_image version) is = tt
    by (Commit_on old new) is = (more new is.0, made new (transaction_of e.moment e.call) is.1)

pub oks_more : (book later : Book) (announced after : List Version) (shown : List Shown) →
    ((v : Version) (t : Transaction) → IsMade book v t → IsMade later v t) →
    ((v : Version) → IsAnnounced announced v → IsAnnounced after v) → AllOks book announced shown → AllOks later after shown
oks_more book later announced after [] made more all = tt
oks_more book later announced after (one ∷ shown) made more all = (
  ok_more book later announced after one.output one.evaluation made more all.0,
  oks_more book later announced after shown made more all.1,
)

with_made : (book : Book) (k : ℕ) (old new : Version) (reason : Reason) (v : Version) (t : Transaction) → IsMade book v t →
    IsMade (with_version book k old new reason) v t
with_made book k old new Own_relabelling v t is = inr is
with_made book k old new (Committed u) v t is = inr is
with_made book k old new Received v t is = is

pub entered_made : (book : Book) (entries : List Entry) (v : Version) (t : Transaction) → IsMade book v t →
    IsMade (entered book entries) v t
entered_made book [] v t is = is
entered_made book (e ∷ entries) v t is =
    entered_made (with_version book e.server e.before (version_after e.made.call) e.made.reason) entries v t
    (with_made book e.server e.before (version_after e.made.call) e.made.reason v t is)

pub announced_more : (shown : List Shown) (announced : List Version) (v : Version) → IsAnnounced announced v →
    IsAnnounced (announced_with shown announced) v
announced_more [] announced v is = is
announced_more (one ∷ shown) announced v is = announced_more shown (announced_in one.output announced) v (by one.output)
  where
    by : (o : Output) → IsAnnounced (announced_in o announced) v
    by (output.Send packet) = is
    by (output.Reply id r) = is
    by (output.Announce version) = inr is

-- ---- packets

module _ (m : Member) (Asked : ℕ → ℕ → Type 0) (c : Stand) where
  pub fit_append : (shown more : List Shown) → AllFit m Asked c shown → AllFit m Asked c more → AllFit m Asked c (shown ++ more)
  fit_append [] more all rest = rest
  fit_append (one ∷ shown) more all rest = (all.0, fit_append shown more all.1 rest)

  sent_fit : (host : Host) (bodies : List Body) → AllBodies (FitsTo m.hosts Asked c host) bodies →
      AllFit m Asked c (map (λ (b : Body). sent (packet_to m host b)) bodies)
  sent_fit host [] all = tt
  sent_fit host (b ∷ bodies) all = ((refl, all.0), sent_fit host bodies all.1)

  fit_if : (test : Bool) (x y : List Shown) → AllFit m Asked c x → AllFit m Asked c y → AllFit m Asked c (cond test x y)
  fit_if true x y first second = first
  fit_if false x y first second = second

  from_fit : (k : ℕ) (hosts : List Host) (bodies : ℕ → List Body) →
      ((host : Host) (k : ℕ) → AllBodies (FitsTo m.hosts Asked c host) (bodies k)) → AllFit m Asked c (sends_from m k hosts bodies)
  from_fit k [] bodies all = tt
  from_fit k (host ∷ hosts) bodies all =
      fit_append (cond (k == m.me) [] (map (λ (b : Body). sent (packet_to m host b)) (bodies k))) (sends_from m (k + 1) hosts bodies)
      (fit_if (k == m.me) [] _ tt (sent_fit host (bodies k) (all host k)))
      (from_fit (k + 1) hosts bodies all)

  pub each_fits : (bodies : ℕ → List Body) → ((host : Host) (k : ℕ) → AllBodies (FitsTo m.hosts Asked c host) (bodies k)) →
      AllFit m Asked c (sends_to_each m bodies)
  each_fits bodies all = from_fit 0 m.hosts bodies all

  pub waiting_fit : (waiting : List Waiting) (r : Reply) → IsUngiven r → AllFit m Asked c (waiting_refused waiting r)
  waiting_fit [] r ungiven = tt
  waiting_fit (w ∷ waiting) r ungiven = ((refl, ungiven), waiting_fit waiting r ungiven)

  flight_fits : (f : Option Flight) (r : Reply) → IsUngiven r → AllFit m Asked c (flight_refused f r)
  flight_fits None r ungiven = tt
  flight_fits (Some f) r ungiven = ((refl, ungiven), tt)

  pub refused_fit : (s : Server) (now : ℕ) (phase : Phase) → AllFit m Asked c (writes_refused m s now phase)
  refused_fit s now phase =
      fit_append (flight_refused s.flight (no_quorum m s now phase applied.Unknown)) _ (flight_fits s.flight _ tt) (waiting_fit s.waiting _ tt)

  pieces_fit : (host : Host) (new : Version) (text : List ℕ) (number left : ℕ) →
      AllBodies (FitsTo m.hosts Asked c host) (put_pieces new text number left)
  pieces_fit host new text number zero = tt
  pieces_fit host new text number (suc left) = (tt, pieces_fit host new text (number + 1) left)

  pub write_fits : (host : Host) (old new : Version) (text : List ℕ) → AllBodies (FitsTo m.hosts Asked c host) (write_bodies old new text)
  write_fits host old new text = (
    tt,
    bodies_append (FitsTo m.hosts Asked c host) (put_pieces new text 0 (piece_count text)) (body.Commit old new ∷ [])
        (pieces_fit host new text 0 (piece_count text)) (tt, tt),
  )
