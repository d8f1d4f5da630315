-- What is served in parts of a step that follow one another, and what a commit makes of an image.
use Rattle.std.proofs.Common.{Bool, true, false, ◌≡◌, inl, inr, ℕ, List, [], ◌∷◌, ◌++◌, refl, sym, ap, subst, ◌∙◌, append_assoc, arith}
use Rattle.std.proofs.lemmas.Bool.{cond_both}
use Rattle.std.proofs.lemmas.Bool.Decides.{nat_tests}
use Rattle.std.specs.Prelude.{Option, Some, None}
use Rattle.std.specs.List.{cons_option}
use Rattle.ubik_types.specs.declared.versions.Version.{Version}
use Rattle.ubik_types.specs.Phase.{Polled, Spread, PhaseRecord, NoPhase, Poll, Fetch, Relabel, Send, Ready}
use Rattle.ubik_types.specs.Quorum.{is_majority}
use Rattle.ubik_types.specs.Version.{version_eq}
use Rattle.ubik_calls.specs.declared.packets.Body.{Body}
use Rattle.ubik_calls.specs.declared.packets.Body.TheVariants as body
use Rattle.ubik_calls.specs.declared.packets.Packet.{Packet}
use Rattle.ubik_calls.specs.declared.replies.Reply.{Reply}
use Rattle.ubik_calls.specs.declared.replies.Reply.TheVariants as reply
use Rattle.db_image.specs.Database.{Database}
use Rattle.cell_model.specs.declared.events.NodeEvent.{NodeEvent}
use Rattle.cell_model.specs.declared.events.NodeEvent.TheVariants as event
use Rattle.cell_model.specs.declared.events.Output.{Output}
use Rattle.cell_model.specs.declared.events.Output.TheVariants as output
use Rattle.cell_model.specs.Book.{Book, BookVersion, list_of, list_or_none, entered, with_version}
use Rattle.cell_model.specs.Durable.{Made, Transaction, Reason, Own_relabelling, Committed, Received, version_after}
use Rattle.cell_model.specs.Node.{Server, ReadyBeacon, Flight}
use Rattle.cell_model.specs.Recovery.{held_by}
use Rattle.cell_model.specs.Step.{cell_size, Stepped, quiet, showing, with_phase, announcing}
use Rattle.cell_model.specs.Step.{Member, Basis, Announced_image, Beacon_image, Commit_on, Evaluation, Shown}
use Rattle.cell_model.specs.World.{Entry, packet_in, packets_of}
use Rattle.cell_model.specs.Writes.{next_version, ended_write, flight_settled, settled_in, settled}
use Rattle.cell_model.proofs.BookVersions.{newest, older, list_is, image_from-append}
use Rattle.cell_pages.specs.Images.{IsImageOf}
use Rattle.cell_pages.specs.Laws.{MadeOnce, KeepsLists}
use Rattle.cell_pages.specs.Moves.{transaction_of}
use Rattle.cell_pages.specs.Parts.{AtMost}
use Rattle.cell_pages.proofs.Versions.{at_most_same}
use Rattle.cell_orders.specs.Acknowledged.{IsAnnounced, IsMade, IsFlown}
use Rattle.cell_orders.specs.Histories.{History, after, Stand, announced_in, announced_with, IsServing, FitsTo, OutputFits, AllFit}
use Rattle.cell_orders.specs.Orders.{IsLast, WasSent}
use Rattle.cell_orders.specs.Served.{LeavesBlocks, Names, IsNamed, EndsIn, Beyond, IsBeyond, IsServed, since_after, AllServed}
use Rattle.cell_orders.proofs.Lists.{kept_behind}
use Rattle.cell_orders.proofs.Orderings.{at_most_then, at_most_lt}
use Rattle.cell_orders.proofs.Telling.{Rising, announced_more}

-- ---- books that grow

pub entered_newer : (book : Book) (entries : List Entry) → (newer : List BookVersion) × (entered book entries ≡ newer ++ book)
entered_newer book [] = ([], refl)
entered_newer book (e ∷ entries) =
    by e.made.reason (entered_newer (with_version book e.server e.before (version_after e.made.call) e.made.reason) entries)
  where
    by : (r : Reason) →
        (newer : List BookVersion)
        × (entered (with_version book e.server e.before (version_after e.made.call) e.made.reason) entries
        ≡ newer ++ with_version book e.server e.before (version_after e.made.call) r) →
        (newer : List BookVersion)
        × (entered (with_version book e.server e.before (version_after e.made.call) e.made.reason) entries ≡ newer ++ book)
    by Own_relabelling is = (is.0 ++ _ ∷ [], is.1 ∙ sym (append_assoc is.0 (_ ∷ []) book))
    by (Committed t) is = (is.0 ++ _ ∷ [], is.1 ∙ sym (append_assoc is.0 (_ ∷ []) book))
    by Received is = is

newer_keep : (newer : List BookVersion) (book : Book) → MadeOnce (newer ++ book) → KeepsLists book (newer ++ book)
newer_keep [] book once v list is = is
newer_keep (b ∷ newer) book once v list is = kept_behind b (newer ++ book) v list once.0 (newer_keep newer book once.1 v list is)

-- an image is that of its version in a book that grew
pub image_beyond : (db : Database) (x : Beyond) (book : Book) (top v : Version) (image : List ℕ) → IsBeyond x book top →
    IsImageOf db book v image → IsImageOf db x.book v image
image_beyond db x book top v image beyond is = record {
  list = is.list;
  listed =
      subst (λ (b : Book). list_of b v ≡ Some is.list) (sym beyond.grew)
      (newer_keep beyond.newer book (subst MadeOnce beyond.grew beyond.once) v is.list is.listed);
  image_is = is.image_is;
}

pub image_later : (db : Database) (book later : Book) (v : Version) (image : List ℕ) → KeepsLists book later → IsImageOf db book v image →
    IsImageOf db later v image
image_later db book later v image keeps is =
    record { list = is.list; listed = keeps v is.list is.listed; image_is = is.image_is }

newer_made : (newer : List BookVersion) (book : Book) (v : Version) (t : Transaction) → IsMade book v t → IsMade (newer ++ book) v t
newer_made [] book v t is = is
newer_made (b ∷ newer) book v t is = inr (newer_made newer book v t is)

pub made_beyond : (x : Beyond) (book : Book) (top v : Version) (t : Transaction) → IsBeyond x book top → IsMade book v t → IsMade x.book v t
made_beyond x book top v t beyond is =
    subst (λ (b : Book). IsMade b v t) (sym beyond.grew) (newer_made beyond.newer book v t is)

-- ---- commits

next_differs : (v : Version) → version_eq (next_version v) v ≡ false
next_differs v = grind (arith, nat_tests)

module _ (db : Database) (book : Book) (k now : ℕ) (call : List ℕ) (v : Version) (image : List ℕ) (is : IsImageOf db book v image) where
  abbrev t : Transaction
  t = transaction_of now call

  abbrev page : BookVersion
  page = record {
    version = next_version v;
    before = v;
    transaction = Some t;
    maker = k;
    transactions = list_or_none book v ++ t ∷ [];
  }

  -- the image before a commit stays that of its version
  pub image_before_commit : IsImageOf db (with_version book k v (next_version v) (Committed (transaction_of now call))) v image
  image_before_commit =
      record { list = is.list; listed = older page book v is.list (next_differs v) is.listed; image_is = is.image_is }

  -- and the one after it is that of the next version
  pub image_of_commit : (later : List ℕ) → later ≡ (db.call image now call).image →
      IsImageOf db (with_version book k v (next_version v) (Committed (transaction_of now call))) (next_version v) later
  image_of_commit later same = record {
    list = is.list ++ t ∷ [];
    listed =
        newest page book
        ∙ ap (λ (l : List Transaction). Some (l ++ transaction_of now call ∷ [])) (list_is book v is.list is.listed);
    image_is = λ good.
        same ∙ ap (λ (i : List ℕ). (db.call i now call).image) (is.image_is good)
        ∙ sym (image_from-append db [] is.list (transaction_of now call ∷ []));
  }

pub flown_held : (db : Database) (book : Book) (v : Version) (phase : PhaseRecord) (k : ℕ) (f : Flight) → IsFlown db book v phase f →
    IsFlown db book v (held_by phase k) f
flown_held db book v NoPhase k f is = tt
flown_held db book v (Poll poll) k f is = tt
flown_held db book v (Fetch poll best host) k f is = tt
flown_held db book v (Relabel poll) k f is = tt
flown_held db book v (Send poll spread) k f is = tt
flown_held db book v (Ready poll spread announced) k f is = is

pub flown_later : (db : Database) (book later : Book) (v : Version) (phase : PhaseRecord) (f : Flight) → KeepsLists book later →
    IsFlown db book v phase f → IsFlown db later v phase f
flown_later db book later v NoPhase f keeps is = tt
flown_later db book later v (Poll poll) f keeps is = tt
flown_later db book later v (Fetch poll best host) f keeps is = tt
flown_later db book later v (Relabel poll) f keeps is = tt
flown_later db book later v (Send poll spread) f keeps is = tt
flown_later db book later v (Ready poll spread announced) f keeps is =
    (is.0, image_later db book later announced f.old_image keeps is.1, is.2)

-- a call that reads
never_both : (o : Option Bool) → o ≡ Some false → o ≡ Some true → ⊥
never_both o one other = absurd (cc)

pub reads_leave : (db : Database) (image : List ℕ) (e : Evaluation) (b : Basis) (r : Reply) → db.writes e.call ≡ Some false →
    LeavesBlocks db image e b r
reads_leave db image e (Commit_on old new) r reads = tt
reads_leave db image e (Announced_image v) (reply.Ok fields) reads = λ writes. absurd (never_both (db.writes e.call) reads writes)
reads_leave db image e (Beacon_image v) (reply.Ok fields) reads = λ writes. absurd (never_both (db.writes e.call) reads writes)
reads_leave db image e (Announced_image v) _ reads = tt
reads_leave db image e (Beacon_image v) _ reads = tt

-- ---- versions that rise

pub rising_most : (v last : Version) (calls : List Made) → Rising v calls last → AtMost v last
rising_most v last [] rising = subst (AtMost v) rising (at_most_same v)
rising_most v last (made ∷ calls) rising =
    at_most_then v (version_after made.call) last (at_most_lt v (version_after made.call) rising.0)
    (rising_most (version_after made.call) last calls rising.1)

-- ---- announced versions

pub last_told : (announced : List Version) (v : Version) → IsLast announced v → IsAnnounced announced v
last_told [] v is = absurd is
last_told (u ∷ announced) v is = inl is

pub told_newer : (newer announced : List Version) (v : Version) → IsAnnounced announced v → IsAnnounced (newer ++ announced) v
told_newer [] announced v is = is
told_newer (u ∷ newer) announced v is = inr (told_newer newer announced v is)

pub ends_itself : (announced : List Version) → EndsIn announced announced
ends_itself announced = ([], refl)

pub ends_then : (a b c : List Version) → EndsIn a b → EndsIn b c → EndsIn a c
ends_then a b c one two =
    (two.0 ++ one.0, two.1 ∙ ap (λ (l : List Version). two.0 ++ l) one.1 ∙ sym (append_assoc two.0 one.0 a))

announced_ends : (o : Output) (announced : List Version) → EndsIn announced (announced_in o announced)
announced_ends (output.Send packet) announced = ([], refl)
announced_ends (output.Reply id r) announced = ([], refl)
announced_ends (output.Announce version) announced = (version ∷ [], refl)

-- the versions announced before the last reply of what is shown
abbrev pub since_with : List Shown → (since announced : List Version) → List Version
since_with [] since announced = since
since_with (one ∷ shown) since announced =
    since_with shown (since_after one.output since announced) (announced_in one.output announced)

since_ends : (o : Output) (since announced : List Version) → EndsIn since announced →
    EndsIn (since_after o since announced) (announced_in o announced)
since_ends (output.Send packet) since announced is = is
since_ends (output.Reply id r) since announced is = ends_itself announced
since_ends (output.Announce version) since announced is = (version ∷ is.0, ap (λ (l : List Version). version ∷ l) is.1)

pub since_with_ends : (shown : List Shown) (since announced : List Version) → EndsIn since announced →
    EndsIn (since_with shown since announced) (announced_with shown announced)
since_with_ends [] since announced is = is
since_with_ends (one ∷ shown) since announced is =
    since_with_ends shown (since_after one.output since announced) (announced_in one.output announced)
    (since_ends one.output since announced is)

-- ---- beacons

pub names_later : (announced after : List Version) (b : Body) → ((v : Version) → IsAnnounced announced v → IsAnnounced after v) →
    Names announced b → Names after b
names_later announced after (body.Beacon start claim ready version) more is = λ sure. more version (is sure)
names_later announced after _ more is = tt

pub named_later : (announced after : List Version) (beacon : Option ReadyBeacon) →
    ((v : Version) → IsAnnounced announced v → IsAnnounced after v) → IsNamed announced beacon → IsNamed after beacon
named_later announced after None more is = tt
named_later announced after (Some kept) more is = more kept.version is

pub named_with : (shown : List Shown) (announced : List Version) (beacon : Option ReadyBeacon) → IsNamed announced beacon →
    IsNamed (announced_with shown announced) beacon
named_with shown announced beacon is =
    named_later announced (announced_with shown announced) beacon (λ v told. announced_more shown announced v told) is

-- ---- what is shown

pub served_append : (db : Database) (x : Beyond) (since announced : List Version) (shown more : List Shown) →
    AllServed db x since announced shown → AllServed db x (since_with shown since announced) (announced_with shown announced) more →
    AllServed db x since announced (shown ++ more)
served_append db x since announced [] more all rest = rest
served_append db x since announced (one ∷ shown) more all rest = (
  all.0,
  served_append db x (since_after one.output since announced) (announced_in one.output announced) shown more all.1 rest,
)

-- what fits gives no reply of a database
pub fits_served : (db : Database) (m : Member) (Asked : ℕ → ℕ → Type 0) (c : Stand) (x : Beyond) (since announced : List Version)
    (shown : List Shown) → ((v : Version) → IsServing c.phase v → IsAnnounced announced v) → AllFit m Asked c shown →
    AllServed db x since announced shown
fits_served db m Asked c x since announced [] serving all = tt
fits_served db m Asked c x since announced (one ∷ shown) serving all =
    by one.output one.evaluation all.0 (λ s. fits_served db m Asked c x s announced shown serving all.1)
  where
    names : (packet : Packet) (b : Body) → FitsTo m.hosts Asked c packet.to b → Names announced b
    names packet (body.Beacon start claim ready version) fits = λ sure. serving version (fits sure)
    names packet _ fits = tt

    by : (o : Output) (e : Option Evaluation) → OutputFits m Asked c o e → ((s : List Version) → AllServed db x s announced shown) →
        IsServed db x since announced o e × AllServed db x (since_after o since announced) (announced_in o announced) shown
    by (output.Send packet) e fits rest = (names packet packet.body fits.1, rest since)
    by (output.Reply id r) None fits rest = (fits.1, rest announced)
    by (output.Reply id r) (Some e) fits rest = let none : Some e ≡ None = fits.0 in absurd (cc)
    by (output.Announce version) e fits rest = absurd fits

-- each packet that is shown names an announced version
pub served_names : (db : Database) (x : Beyond) (since announced : List Version) (shown : List Shown) (p : Packet) →
    AllServed db x since announced shown → WasSent (packets_of shown) p → Names (announced_with shown announced) p.body
served_names db x since announced [] p all is = absurd is
served_names db x since announced (one ∷ shown) p all is =
    by one.output one.evaluation all.0 is
    (λ more. served_names db x (since_after one.output since announced) (announced_in one.output announced) shown p all.1 more)
  where
    by : (o : Output) (e : Option Evaluation) → IsServed db x since announced o e → WasSent (cons_option (packet_in o) (packets_of shown)) p →
        (WasSent (packets_of shown) p → Names (announced_with shown (announced_in o announced)) p.body) →
        Names (announced_with shown (announced_in o announced)) p.body
    by (output.Send packet) e served (inl same) rest =
        subst (λ (q : Packet). Names (announced_with shown announced) q.body) same
        (names_later announced (announced_with shown announced) packet.body (λ v told. announced_more shown announced v told) served)
    by (output.Send packet) e served (inr is) rest = rest is
    by (output.Reply id r) e served is rest = rest is
    by (output.Announce version) e served is rest = rest is

-- what a packet that comes names
abbrev pub EventNames : List Version → NodeEvent → Type 0
EventNames announced (event.Packet p) = Names announced p.body
EventNames announced _ = Unit {0}

pub names_on : (announced : List Version) (shown : List Shown) (e : NodeEvent) → EventNames announced e →
    EventNames (announced_with shown announced) e
names_on announced shown (event.Packet p) names =
    names_later announced (announced_with shown announced) p.body (λ v told. announced_more shown announced v told) names
names_on announced shown event.BeaconTurn names = tt
names_on announced shown event.RecoverTurn names = tt
names_on announced shown (event.Ask id call) names = tt

-- what is settled leaves version, image and book
pub settled_pure : (db : Database) (m : Member) (h : History) (s : Server) → IsImageOf db h.book s.version s.image →
    IsImageOf db (after h m.me s.version (settled m s)).book (settled m s).server.version (settled m s).server.image
settled_pure db m h s pure = by s.phase
  where
    P : Stepped → Type 0
    P t = IsImageOf db (after h m.me s.version t).book t.server.version t.server.image

    flown : (poll : Polled) (spread : Spread) (announced : Version) (f : Option Flight) → P (flight_settled m s poll spread announced f)
    flown poll spread announced None = pure
    flown poll spread announced (Some f) =
        cond_both (is_majority (cell_size m) spread.holders) (ended_write s f poll spread announced) (quiet s) P (λ _. pure) (λ _. pure)

    by : (phase : PhaseRecord) → P (settled_in m s phase)
    by NoPhase = pure
    by (Poll poll) = pure
    by (Fetch poll best host) = pure
    by (Relabel poll) = pure
    by (Send poll spread) =
        cond_both (is_majority (cell_size m) spread.holders)
        (showing (with_phase s (Ready poll spread s.version)) (announcing s.version ∷ [])) (quiet s) P (λ _. pure) (λ _. pure)
    by (Ready poll spread announced) = flown poll spread announced s.flight
