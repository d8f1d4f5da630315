-- Along each run of a cell of one server: its durable version has a list, to which the image belongs and which each
-- announcement begins; while it is ready, that list is the order.
use Rattle.std.proofs.Common.{true, ◌≡◌, ℕ, zero, suc, ◌-◌, List, [], ◌∷◌, ◌++◌, length, refl, sym, ap, subst, ◌∙◌, arith, append_assoc, length-append}
use Rattle.std.proofs.lemmas.List.{append-nil}
use Rattle.std.proofs.lemmas.List.Elements.{All-nil, All-cons}
use Rattle.std.proofs.lemmas.Option.{none-some}
use Rattle.std.specs.Prelude.{Option, Some, None, slice_get, All}
use Rattle.std.specs.List.{cons_option}
use Rattle.ubik_types.specs.declared.versions.Version.{Version}
use Rattle.ubik_calls.specs.declared.replies.Reply.{Reply}
use Rattle.ubik_calls.specs.declared.replies.Reply.TheVariants as reply
use Rattle.ubik_calls.specs.declared.packets.Packet.{Packet}
use Rattle.db_image.specs.Database.{Database}
use Rattle.cell_model.specs.declared.events.NodeEvent.{NodeEvent}
use Rattle.cell_model.specs.declared.events.Output.{Output}
use Rattle.cell_model.specs.declared.events.Output.TheVariants as output
use Rattle.cell_model.specs.Book.{Book, Announcement, Acknowledgement, list_or_none, entered, announced, order_of, acknowledged_in, acknowledged}
use Rattle.cell_model.specs.Durable.{Durable, Transaction, Made, durable}
use Rattle.cell_model.specs.KeptLaws.{IsPlaced}
use Rattle.cell_model.specs.Laws.{Begins, AllBegin, Grows}
use Rattle.cell_model.specs.Node.{Node, Down, Halted, Up, Server}
use Rattle.cell_model.specs.Recovery.{own_relabelling}
use Rattle.cell_model.specs.Step.{Evaluation, Shown, Stepped, is_ready}
use Rattle.cell_model.specs.World.{Site, Happening, Sent, Announced, Replied, Lost, Stops, Halts, Restarts, Stays_down, SiteHappened, packet_in, packets_of, number_after, packet_of, seen_of_output, seen_from, step_up}
use Rattle.cell_model.specs.Writes.{own_commit}
use Rattle.cell_model.proofs.BookVersions.{IsListed, book_after, list_is, goes_relabelled, goes_committed}
use Rattle.cell_model.proofs.StepKinds.{IsAlone, IsTold, IsToldOutput, AllTold, Rests, Relabels, Commits, made_at}

-- ---- the one server

-- while it is up
pub record StandsUp (ann : List Announcement) (list : List Transaction) (d : Durable) (s : Server) : Type 0 where
  pub durable_is : d ≡ durable s.version s.image
  pub alone : IsAlone s
  pub ready : is_ready s.phase ≡ true → order_of ann ≡ list

-- whatever its state
abbrev pub StandsNode : List Announcement → List Transaction → Durable → Node → Type 0
StandsNode ann list d Down = Unit {0}
StandsNode ann list d (Halted h) = Unit {0}
StandsNode ann list d (Up s) = StandsUp ann list d s

pub record Stands (db : Database) (book : Book) (ann : List Announcement) (site : Site) : Type 0 where
  pub list : List Transaction
  pub is : IsListed db book site.durable list
  pub begins : AllBegin ann list
  pub grows : Grows ann
  pub node : StandsNode ann list site.durable site.node

-- ---- lists that go on

pub all_begin_more : (ann : List Announcement) (whole more : List Transaction) → AllBegin ann whole → AllBegin ann (whole ++ more)
all_begin_more [] whole more all = tt
all_begin_more (a ∷ ann) whole more all =
    ((all.0.0 ++ more, ap (λ (l : List Transaction). l ++ more) all.0.1 ∙ append_assoc a.transactions all.0.0 more), all_begin_more ann whole more all.1)

pub order_begins : (ann : List Announcement) (whole : List Transaction) → AllBegin ann whole → Begins (order_of ann) whole
order_begins [] whole all = (whole, refl)
order_begins (a ∷ ann) whole all = all.0

pub last_at : (list : List Transaction) (t : Transaction) → slice_get (list ++ t ∷ []) (length list) ≡ Some t
last_at [] t = refl
last_at (x ∷ list) t = last_at list t

pub slice_get-front : (front rest : List Transaction) (k : ℕ) (t : Transaction) → slice_get front k ≡ Some t → slice_get (front ++ rest) k ≡ Some t
slice_get-front [] rest k t at = absurd (none-some t at)
slice_get-front (x ∷ front) rest zero t at = at
slice_get-front (x ∷ front) rest (suc k) t at = slice_get-front front rest k t at

-- ---- what is seen where nothing is announced or acknowledged

abbrev pub IsSilent : Happening → Type 0
IsSilent (Announced server version) = ⊥
IsSilent (Replied server id r evaluation) = (book : Book) → acknowledged_in book r evaluation ≡ []
IsSilent _ = Unit {0}

abbrev pub AllSilent : List Happening → Type 0
AllSilent [] = Unit {0}
AllSilent (one ∷ seen) = IsSilent one × AllSilent seen

pub silent_announces : (book : Book) (seen : List Happening) (ann : List Announcement) → AllSilent seen → announced book seen ann ≡ ann
silent_announces book [] ann silent = refl
silent_announces book (Announced server version ∷ seen) ann silent = absurd silent.0
silent_announces book (Sent number packet ∷ seen) ann silent = silent_announces book seen ann silent.1
silent_announces book (Replied server id r evaluation ∷ seen) ann silent = silent_announces book seen ann silent.1
silent_announces book (Lost number ∷ seen) ann silent = silent_announces book seen ann silent.1
silent_announces book (Stops server ∷ seen) ann silent = silent_announces book seen ann silent.1
silent_announces book (Halts server ∷ seen) ann silent = silent_announces book seen ann silent.1
silent_announces book (Restarts server version ∷ seen) ann silent = silent_announces book seen ann silent.1
silent_announces book (Stays_down server ∷ seen) ann silent = silent_announces book seen ann silent.1

pub silent_acknowledges : (book : Book) (seen : List Happening) (before : List Acknowledgement) → AllSilent seen → acknowledged book seen before ≡ before
silent_acknowledges book [] before silent = refl
silent_acknowledges book (Announced server version ∷ seen) before silent = absurd silent.0
silent_acknowledges book (Sent number packet ∷ seen) before silent = silent_acknowledges book seen before silent.1
silent_acknowledges book (Replied server id r evaluation ∷ seen) before silent =
    silent_acknowledges book seen (acknowledged_in book r evaluation ++ before) silent.1
    ∙ ap (λ (l : List Acknowledgement). l ++ before) (silent.0 book)
silent_acknowledges book (Lost number ∷ seen) before silent = silent_acknowledges book seen before silent.1
silent_acknowledges book (Stops server ∷ seen) before silent = silent_acknowledges book seen before silent.1
silent_acknowledges book (Halts server ∷ seen) before silent = silent_acknowledges book seen before silent.1
silent_acknowledges book (Restarts server version ∷ seen) before silent = silent_acknowledges book seen before silent.1
silent_acknowledges book (Stays_down server ∷ seen) before silent = silent_acknowledges book seen before silent.1

pub silent_append : (seen more : List Happening) → AllSilent seen → AllSilent more → AllSilent (seen ++ more)
silent_append [] more silent rest = rest
silent_append (one ∷ seen) more silent rest = (silent.0, silent_append seen more silent.1 rest)

-- a reply that is told is no acknowledgement
silent_reply : (db : Database) (s : Server) (now : ℕ) (e : NodeEvent) (id : ℕ) (r : Reply) (evaluation : Option Evaluation) → IsTold db s now e id r evaluation → (book : Book) → acknowledged_in book r evaluation ≡ []
silent_reply db s now e id (reply.Ok fields) evaluation told book = ap (acknowledged_in book (reply.Ok fields)) told.given.evaluated
silent_reply db s now e id _ evaluation told book = refl

silent_output : (db : Database) (s : Server) (now : ℕ) (e : NodeEvent) (number : ℕ) (o : Output) (evaluation : Option Evaluation) → IsToldOutput db s now e o evaluation → IsSilent (seen_of_output 0 number o evaluation)
silent_output db s now e number (output.Send packet) evaluation told = tt
silent_output db s now e number (output.Reply id r) evaluation told = silent_reply db s now e id r evaluation told
silent_output db s now e number (output.Announce version) evaluation told = told

pub silent_told : (db : Database) (s : Server) (now : ℕ) (e : NodeEvent) (number : ℕ) (shown : List Shown) → AllTold db s now e shown → AllSilent (seen_from 0 number shown)
silent_told db s now e number [] told = tt
silent_told db s now e number (one ∷ shown) told =
    (silent_output db s now e number one.output one.evaluation told.0, silent_told db s now e (number_after number (packet_of one)) shown told.1)

-- and no packet
no_packet : (db : Database) (s : Server) (now : ℕ) (e : NodeEvent) (o : Output) (evaluation : Option Evaluation) → IsToldOutput db s now e o evaluation → packet_in o ≡ None
no_packet db s now e (output.Send packet) evaluation told = absurd told
no_packet db s now e (output.Reply id r) evaluation told = refl
no_packet db s now e (output.Announce version) evaluation told = absurd told

pub no_packets : (db : Database) (s : Server) (now : ℕ) (e : NodeEvent) (shown : List Shown) → AllTold db s now e shown → packets_of shown ≡ []
no_packets db s now e [] told = refl
no_packets db s now e (one ∷ shown) told =
    ap (λ (o : Option Packet). cons_option o (packets_of shown)) (no_packet db s now e one.output one.evaluation told.0) ∙ no_packets db s now e shown told.1

-- ---- what an event leaves

-- what is seen of a site, where no packet was ever sent
abbrev pub seen_at : SiteHappened → List Happening
seen_at h = seen_from 0 1 h.shown ++ h.marks

-- The one server stands, no packet is sent, the order goes on, and what is acknowledged then is in it.
pub record Leaves (db : Database) (book : Book) (ann : List Announcement) (h : SiteHappened) : Type 0 where
  pub packets : packets_of h.shown ≡ []
  pub stands : Stands db (entered book h.entries) (announced (entered book h.entries) (seen_at h) ann) h.site
  pub moves : Begins (order_of ann) (order_of (announced (entered book h.entries) (seen_at h) ann))
  pub newer : List Acknowledgement
  pub acknowledges : (before : List Acknowledgement) → acknowledged (entered book h.entries) (seen_at h) before ≡ newer ++ before
  pub placed : All (IsPlaced (order_of (announced (entered book h.entries) (seen_at h) ann))) newer

-- where nothing is announced or acknowledged
pub silent_leaves : (db : Database) (book : Book) (ann : List Announcement) (h : SiteHappened) → packets_of h.shown ≡ [] → AllSilent (seen_at h) → Stands db (entered book h.entries) ann h.site → Leaves db book ann h
silent_leaves db book ann h none silent stands =
    let after = entered book h.entries in
    let same : announced after (seen_at h) ann ≡ ann = silent_announces after (seen_at h) ann silent in
    let P : List Announcement → Type 0 = λ a. Stands db after a h.site in
    let Q : List Announcement → Type 0 = λ a. Begins (order_of ann) (order_of a) in
    record {
      packets = none;
      stands = subst P (sym same) stands;
      moves = subst Q (sym same) ([], sym (append-nil _));
      newer = [];
      acknowledges = λ before. silent_acknowledges after (seen_at h) before silent;
      placed = All-nil (IsPlaced (order_of (announced after (seen_at h) ann)));
    }

-- ---- a step

-- the last one of a list stands at the place before its end
last_placed : (whole list : List Transaction) (t : Transaction) → whole ≡ list ++ t ∷ [] → slice_get whole (length whole - 1) ≡ Some t
last_placed whole list t is =
    let place : length whole - 1 ≡ length list = omega (arith, ap length is, length-append list (t ∷ [])) in
    ap (λ (k : ℕ). slice_get whole k) place ∙ ap (λ (l : List Transaction). slice_get l (length list)) is ∙ last_at list t

-- the announcement of a version
abbrev pub announcement : Book → Version → Announcement
announcement book version = record { server = 0; version = version; transactions = list_or_none book version }

-- the server stands behind an announcement of its version
announced_stands : (db : Database) (after : Book) (ann : List Announcement) (clock : ℕ) (ids : List ℕ) (d : Durable) (s : Server) (list : List Transaction) → IsListed db after d list → AllBegin ann list → Grows ann → d ≡ durable s.version s.image → IsAlone s → Stands db after (announcement after d.version ∷ ann) (record { clock = clock; durable = d; node = Up s; asked = ids })
announced_stands db after ann clock ids d s list is all grows durable_is alone =
    let same : list_or_none after d.version ≡ list = list_is after d.version list is.listed in
    record {
      list = list;
      is = is;
      begins = (([], sym same ∙ sym (append-nil _)), all);
      grows = (subst (AllBegin ann) (sym same) all, grows);
      node = record { durable_is = durable_is; alone = alone; ready = λ _. same };
    }

-- the order goes on to the list of the announced version
announced_moves : (db : Database) (after : Book) (ann : List Announcement) (d : Durable) (list more : List Transaction) → IsListed db after d (list ++ more) → AllBegin ann list → Begins (order_of ann) (list_or_none after d.version)
announced_moves db after ann d list more is all =
    let front = order_begins ann list all in
    (front.0 ++ more, list_is after d.version (list ++ more) is.listed ∙ ap (λ (l : List Transaction). l ++ more) front.1 ∙ append_assoc (order_of ann) front.0 more)

-- a site whose server is up, with its durable state
abbrev pub site_up : Site → Server → Site
site_up site s = record site { durable = durable s.version s.image }

-- what is known of it
pub record KnowsUp (db : Database) (book : Book) (ann : List Announcement) (s : Server) (list : List Transaction) : Type 0 where
  pub is : IsListed db book (durable s.version s.image) list
  pub begins : AllBegin ann list
  pub grows : Grows ann
  pub ready : is_ready s.phase ≡ true → order_of ann ≡ list

-- the step of a server, in its parts
abbrev pub step_at_site : Site → Server → NodeEvent → Server → List Made → List Shown → SiteHappened
step_at_site site s e after calls shown = step_up 0 (site_up site s) e s.version (record { server = after; calls = calls; shown = shown })

same_durable : (a b : Server) → b.version ≡ a.version → b.image ≡ a.image → durable a.version a.image ≡ durable b.version b.image
same_durable a b version image = cc

pub rests_leaves : (db : Database) (book : Book) (ann : List Announcement) (site : Site) (s : Server) (now : ℕ) (e : NodeEvent) (t : Stepped) (list : List Transaction) → KnowsUp db book ann s list → Rests db s now e t → Leaves db book ann (step_at_site site s e t.server t.calls t.shown)
rests_leaves db book ann site s now e t list up rests =
    let P : List Made → Type 0 = λ calls. Leaves db book ann (step_at_site site s e t.server calls t.shown) in
    subst P (sym rests.calls)
    (silent_leaves db book ann (step_at_site site s e t.server [] t.shown) (no_packets db s now e t.shown rests.told)
    (silent_append (seen_from 0 1 t.shown) [] (silent_told db s now e 1 t.shown rests.told) tt) stands)
  where
    stands : Stands db book ann (step_at_site site s e t.server [] t.shown).site
    stands = record {
      list = list;
      is = up.is;
      begins = up.begins;
      grows = up.grows;
      node = record { durable_is = same_durable s t.server rests.version rests.image_is; alone = rests.alone; ready = λ is. up.ready (rests.ready is) };
    }

pub relabels_leaves : (db : Database) (book : Book) (ann : List Announcement) (site : Site) (s : Server) (e : NodeEvent) (t : Stepped) (list : List Transaction) → KnowsUp db book ann s list → Relabels s t → Leaves db book ann (step_at_site site s e t.server t.calls t.shown)
relabels_leaves db book ann site s e t list up made =
    let P : List Made → Type 0 = λ calls. Leaves db book ann (step_at_site site s e t.server calls t.shown) in
    let Q : List Shown → Type 0 = λ shown. Leaves db book ann (step_at_site site s e t.server (own_relabelling made.new ∷ []) shown) in
    subst P (sym made.calls) (subst Q (sym made.shown) (record {
      packets = refl;
      stands = announced_stands db after ann site.clock _ d t.server (list ++ []) goes (all_begin_more ann list [] up.begins) up.grows durable_is made.alone;
      moves = announced_moves db after ann d list [] goes up.begins;
      newer = [];
      acknowledges = λ before. refl;
      placed = All-nil (IsPlaced (list_or_none after d.version));
    }))
  where
    d : Durable
    d = durable made.new s.image

    after : Book
    after = book_after book s.version (own_relabelling made.new ∷ [])

    goes : IsListed db after d (list ++ [])
    goes = goes_relabelled db book (durable s.version s.image) list up.is made.new

    durable_is : d ≡ durable t.server.version t.server.image
    durable_is =
        let version = made.version in
        let image = made.image_is in cc

pub commits_leaves : (db : Database) (book : Book) (ann : List Announcement) (site : Site) (s : Server) (now : ℕ) (e : NodeEvent) (t : Stepped) (list : List Transaction) → KnowsUp db book ann s list → Commits db s now e t → Leaves db book ann (step_at_site site s e t.server t.calls t.shown)
commits_leaves db book ann site s now e t list up made =
    let P : List Made → Type 0 = λ calls. Leaves db book ann (step_at_site site s e t.server calls t.shown) in
    let Q : List Shown → Type 0 = λ shown. Leaves db book ann (step_at_site site s e t.server (own_commit made.new made.changes d.image one ∷ []) shown) in
    subst P (sym made.calls) (subst Q (sym made.shown) (record {
      packets = refl;
      stands = announced_stands db after ann site.clock _ d t.server (list ++ one ∷ []) goes (all_begin_more ann list (one ∷ []) up.begins) up.grows durable_is made.alone;
      moves = announced_moves db after ann d list (one ∷ []) goes up.begins;
      newer = placed ∷ [];
      acknowledges = λ before. refl;
      placed = All-cons (IsPlaced whole) placed [] (last_placed whole list one (list_is after d.version (list ++ one ∷ []) goes.listed)) (All-nil (IsPlaced whole));
    }))
  where
    one : Transaction
    one = made_at now made.answered.call

    d : Durable
    d = durable made.new (db.call s.image now made.answered.call).image

    after : Book
    after = book_after book s.version (own_commit made.new made.changes d.image one ∷ [])

    whole : List Transaction
    whole = list_or_none after d.version

    placed : Acknowledgement
    placed = record { transaction = one; version = made.new; place = length whole - 1 }

    goes : IsListed db after d (list ++ one ∷ [])
    goes = goes_committed db book (durable s.version s.image) list up.is made.new made.changes now made.answered.call

    durable_is : d ≡ durable t.server.version t.server.image
    durable_is =
        let version = made.version in
        let image = made.image_is in cc
