-- After each run of each cell the list of each announcement begins that of each later one.
use Rattle.std.proofs.Common.{Bool, true, false, cond, ◌≡◌, inl, inr, ℕ, zero, suc, ◌+◌, ◌/◌, ◌<◌, List, [], ◌∷◌, length}
use Rattle.std.proofs.Common.{refl, sym, ap, subst, ◌∙◌, arith}
use Rattle.std.proofs.lemmas.Bool.Decides.{nat_tests}
use Rattle.std.proofs.lemmas.List.Sums.{sum_by-cons}
use Rattle.std.specs.Prelude.{Option, Some, None, All, replicate, nat_le}
use Rattle.ubik_types.specs.declared.versions.Version.{Version}
use Rattle.ubik_types.specs.declared.hosts.Host.{Host}
use Rattle.ubik_types.specs.Quorum.{size, is_majority}
use Rattle.ubik_types.specs.Phase.{Polled, Spread, PhaseRecord, NoPhase, Poll, Fetch, Relabel, Send, Ready}
use Rattle.cell_model.specs.SingleCopy.{image_after}
use Rattle.cell_model.specs.Step.{is_ready, leased, told_version}
use Rattle.cell_model.specs.Writes.{image_before}
use Rattle.cell_laws.proofs.Parts.{no, and_both}
use Rattle.cell_pages.specs.Images.{KeepsImages, IsImageOf}
use Rattle.cell_pages.specs.Passes.{NodeKeeps}
use Rattle.cell_orders.proofs.Standing.{level_at}
use Rattle.db_image.specs.Database.{Database}
use Rattle.lease_model.specs.Leases.{Leases}
use Rattle.lease_model.specs.Rules.{AreSafe, cell_rules}
use Rattle.lease_model.specs.Runs as runs
use Rattle.ubik_votes.specs.Greatest.{RestsOnGreatest}
use Rattle.cell_model.specs.Book.{Book, Given, Run, list_of, entered, announced, site_database}
use Rattle.cell_model.specs.Book.{acknowledged, given, order_of, first_run, run_after, run_through}
use Rattle.cell_model.specs.Durable.{no_database}
use Rattle.cell_model.specs.Node.{Up, Server, Flight, opened_server}
use Rattle.cell_model.specs.World.{World, Event, Happened, member}
use Rattle.cell_model.specs.World.{IsFirst, IsRun, first_site, first_world, happens}
use Rattle.cell_laws.specs.Invariant.{CellInvariant}
use Rattle.cell_laws.proofs.Cells.{first_each, first_good, run_good, same_world}
use Rattle.cell_laws.proofs.Worlds.{Result, happens_good}
use Rattle.cell_pages.specs.Contents.{Carries}
use Rattle.cell_pages.specs.Laws.{run_of}
use Rattle.cell_pages.proofs.Holding.{Both, BothDurable, Pages, contents_pass}
use Rattle.cell_pages.proofs.Once.{OnceAndRising, both_grew}
use Rattle.cell_pages.proofs.Runs.{happens_keeps, first_keeps}
use Rattle.cell_orders.specs.Kept.{versions_of, ServerKeeps, OrderKept, ListsOf, versions_in}
use Rattle.cell_model.specs.KeptLaws.{IsPlaced}
use Rattle.cell_model.specs.Laws.{Begins}
use Rattle.cell_orders.specs.Acknowledged.{IsLevel, IsFlown, FlightMade, AllKeptAt}
use Rattle.cell_orders.specs.Laws.{AnnouncementsGrow, AcknowledgedStay, MajoritiesKeep, RepliesAreSingle, RepliesAreGiven}
use Rattle.cell_orders.specs.Laws.{RepliesAnswerAsks, RepliesHaveAcknowledged, RepliesGrow, SitesServeTheOrder, WritesAreMade}
use Rattle.cell_orders.specs.Orders.{IsLast, ServesLast, Premises}
use Rattle.std.specs.List.{AllByRecursion}
use Rattle.std.proofs.lemmas.List.Elements.{All-from_recursion}
use Rattle.cell_pages.specs.Parts.{AtMost}
use Rattle.cell_orders.specs.Asked.{AsksIn, WasAsked, AnswersAsk, CallsKnown}
use Rattle.cell_orders.proofs.Calling.{none_called}
use Rattle.cell_orders.specs.Replies.{IsSingleReply, IsAtSync, HasEvaluation, IsGivenAt, ServedRise}
use Rattle.cell_orders.proofs.Replying.{givens_called, of_last, givens_map, givens_later, single_reply, givens_seen, Behind, Newer, newer_seen, newer_both}
use Rattle.cell_orders.proofs.Replying.{order_begins, prefixes_stay, evaluated, placed_on}
use Rattle.cell_orders.proofs.Serving.{ends_itself}
use Rattle.cell_orders.proofs.Orderings.{zero_at_most}
use Rattle.cell_orders.specs.Served.{IsNamed}
use Rattle.cell_orders.proofs.Runs.{Contents, OksSeen, SeenServed, SeenCalled, fresh, happens_orders}
use Rattle.cell_orders.proofs.Lists.{grows, keeps_lists, lists_later, lists_seen}
use Rattle.cell_orders.proofs.Acknowledging.{acks_seen, told_more, acks_later, all_placed, placed, run_adds, all_of_end}

-- ---- ready sync sites

is_served : (phase : PhaseRecord) → is_ready phase ≡ true →
    (poll : Polled) × (spread : Spread) × (announced : Version) × (phase ≡ Ready poll spread announced)
is_served NoPhase is = no is
is_served (Poll poll) is = no is
is_served (Fetch poll best host) is = no is
is_served (Relabel poll) is = no is
is_served (Send poll spread) is = no is
is_served (Ready poll spread announced) is = (poll, spread, announced, refl)

-- its database is the image of the announced version
served_image : (db : Database) (book : Book) (s : Server) → is_ready s.phase ≡ true → IsLevel s.version s.phase s.flight →
    FlightMade db book s.version s.phase s.flight → IsImageOf db book s.version s.image →
    IsImageOf db book (told_version s.phase s.version) (site_database s)
served_image db book s ready level made image = by s.phase refl ready
  where
    by : (phase : PhaseRecord) → s.phase ≡ phase → is_ready phase ≡ true →
        IsImageOf db book (told_version phase s.version) (site_database s)
    by NoPhase at is = no is
    by (Poll poll) at is = no is
    by (Fetch poll best host) at is = no is
    by (Relabel poll) at is = no is
    by (Send poll spread) at is = no is
    by (Ready poll spread announced) at is = flown s.flight refl
      where
        flown : (o : Option Flight) → s.flight ≡ o → IsImageOf db book announced (image_before s.image o)
        flown None none =
            subst (λ (v : Version). IsImageOf db book v s.image)
            (level_at s.version s.phase s.flight poll spread announced at none level) image
        flown (Some f) some = (subst (λ (p : PhaseRecord). IsFlown db book s.version p f) at (made f some).2).1

-- ---- the first world

size-cons : (a : Bool) (set : List Bool) → size (a ∷ set) ≡ cond a 1 0 + size set
size-cons a set = sum_by-cons (λ (marked : Bool). cond marked 1 0) a set

all_size : (n : ℕ) → size (replicate n true) ≡ n
all_size zero = refl
all_size (suc n) = size-cons true (replicate n true) ∙ (let rest : size (replicate n true) ≡ n = all_size n in omega arith)

all_length : (n : ℕ) → length (replicate n true) ≡ n
all_length zero = refl
all_length (suc n) = ap suc (all_length n)

all_most : (n : ℕ) → 0 < n → is_majority n (replicate n true) ≡ true
all_most n some = by (nat_le (n / 2 + 1) (size (replicate n true))) refl
  where
    by : (t : Bool) → nat_le (n / 2 + 1) (size (replicate n true)) ≡ t → nat_le (n / 2 + 1) (size (replicate n true)) ≡ true
    by true is = is
    by false is =
        let same : size (replicate n true) ≡ n = all_size n in
        let less : size (replicate n true) < n / 2 + 1 = grind (arith, nat_tests) in
        absurd (omega arith)

-- nothing is asked of which calls were asked
abbrev Any : ℕ → ℕ → List ℕ → Type 0
Any k id call = Unit {0}

-- each call that these events ask is known
abbrev Knows : (ℕ → ℕ → List ℕ → Type 0) → List Event → Type 0
Knows Called events = (k id : ℕ) (call : List ℕ) → WasAsked events k id call → Called k id call

any_known : (events : List Event) → Knows Any events
any_known events k id call asked = tt

module _ (safe : AreSafe cell_rules) (premises : Premises) (db : Database) (Called : ℕ → ℕ → List ℕ → Type 0) where
  first_orders : (hosts : List Host) (clock : ℕ) (failed : List Bool) → IsFirst hosts clock failed →
      OrderKept db Called (first_world hosts clock failed) [] []
  first_orders hosts clock failed first = record {
    ordered = record { listed = tt; rise = tt; follow = tt };
    kept = λ p j sent. absurd sent;
    asked = λ p j sent. absurd sent;
    numbers = λ j number asked. absurd asked.1;
    majority = record {
      set = replicate (length hosts) true;
      each = all_length (length hosts);
      most = all_most (length hosts) first.cell.some;
      keeps = λ j marked. zero_at_most _;
    };
    servers = λ k site s get up. first_each hosts clock
        (λ k site. (s : Server) → site.node ≡ Up s →
        ServerKeeps hosts (versions_of (first_world hosts clock failed)) [] [] k site.clock s) failed (λ k b. one k b) k site get s up;
    flights = λ k site s get up. first_each hosts clock
        (λ k site. (s : Server) → site.node ≡ Up s → FlightMade db [] s.version s.phase s.flight) failed (λ k b. none k b) k site get s up;
    names = λ p sent. absurd sent;
    beacons = λ k site s get up. first_each hosts clock
        (λ k site. (s : Server) → site.node ≡ Up s → IsNamed [] s.beacon) failed (λ k b. unnamed k b) k site get s up;
    calls = λ k site s get up. first_each hosts clock
        (λ k site. (s : Server) → site.node ≡ Up s → CallsKnown (Called k) s.flight s.waiting) failed (λ k b. uncalled k b) k site get s up;
  }
    where
      none : (k : ℕ) (b : Bool) (s : Server) → (first_site (length hosts) clock b).node ≡ Up s → FlightMade db [] s.version s.phase s.flight
      none k true s up = absurd (cc)
      none k false s up =
          let same : opened_server (length hosts) no_database clock ≡ s = cc in
          subst (λ (u : Server). FlightMade db [] u.version u.phase u.flight) same (λ f is. absurd (cc))

      uncalled : (k : ℕ) (b : Bool) (s : Server) → (first_site (length hosts) clock b).node ≡ Up s →
          CallsKnown (Called k) s.flight s.waiting
      uncalled k true s up = absurd (cc)
      uncalled k false s up =
          let same : opened_server (length hosts) no_database clock ≡ s = cc in
          subst (λ (u : Server). CallsKnown (Called k) u.flight u.waiting) same (none_called (Called k) None refl, tt)

      unnamed : (k : ℕ) (b : Bool) (s : Server) → (first_site (length hosts) clock b).node ≡ Up s → IsNamed [] s.beacon
      unnamed k true s up = absurd (cc)
      unnamed k false s up =
          let same : opened_server (length hosts) no_database clock ≡ s = cc in
          subst (λ (u : Server). IsNamed [] u.beacon) same tt

      one : (k : ℕ) (b : Bool) (s : Server) → (first_site (length hosts) clock b).node ≡ Up s →
          ServerKeeps hosts (versions_of (first_world hosts clock failed)) [] [] k clock s
      one k true s up = absurd (cc)
      one k false s up =
          let same : opened_server (length hosts) no_database clock ≡ s = cc in
          subst (λ (u : Server). ServerKeeps hosts (versions_of (first_world hosts clock failed)) [] [] k clock u) same
          (fresh (length hosts) clock no_database hosts (versions_of (first_world hosts clock failed)) [] [] k refl
          (λ number asked. absurd asked.1))

  -- ---- each run

  record Ordered (r : Run) : Type 0 where
    contents : Contents safe premises db Called r.world r.book
    kept : OrderKept db Called r.world r.book (versions_in r.announcements)
    lists : ListsOf r.book r.announcements
    acks : AllKeptAt r.book (versions_in r.announcements) r.acknowledged
    given : AllByRecursion (IsGivenAt db r.book (versions_in r.announcements) (versions_of r.world)) r.given
    rise : ServedRise r.given
    asked : AllByRecursion (λ (g : Given). Called g.server g.id g.evaluation.call) r.given

  one_event : (r : Run) (x : Leases) (e : Event) → ((k id : ℕ) (call : List ℕ) → AsksIn e k id call → Called k id call) →
      CellInvariant r.world x r.book → Ordered r → Ordered (run_after db r e)
  one_event r x e asks good is = record {
    asked =
        givens_called Called (entered r.book (happens db r.world e).entries) (happens db r.world e).seen r.announcements r.given both.4 is.asked;
    contents = contents;
    kept = both.0;
    lists = lists;
    acks = acks;
    given = givens.0;
    rise = givens.1;
  }
    where
      h : Happened
      h = happens db r.world e

      contents : Contents safe premises db Called (happens db r.world e).world (entered r.book (happens db r.world e).entries)
      contents =
          happens_keeps db (Both db OnceAndRising both_grew) (BothDurable db OnceAndRising both_grew) (Carries db) (Pages db OnceAndRising both_grew)
          (contents_pass db OnceAndRising both_grew) safe r.world x r.book good is.contents e

      both : OrderKept db Called (happens db r.world e).world (entered r.book (happens db r.world e).entries)
          (versions_in (announced (entered r.book (happens db r.world e).entries) (happens db r.world e).seen r.announcements))
          × OksSeen (entered r.book (happens db r.world e).entries)
          (versions_in (announced (entered r.book (happens db r.world e).entries) (happens db r.world e).seen r.announcements))
          (happens db r.world e).seen
          × SeenServed db (entered r.book (happens db r.world e).entries) (versions_of (happens db r.world e).world)
          (versions_in r.announcements) (versions_in r.announcements) (happens db r.world e).seen
          × ((j : ℕ) → AtMost (versions_of r.world j) (versions_of (happens db r.world e).world j))
          × SeenCalled Called (happens db r.world e).seen
      both = happens_orders safe premises db Called r.world x r.book good is.contents r.announcements is.kept e asks contents.pages.0.0

      lists : ListsOf (entered r.book (happens db r.world e).entries)
          (announced (entered r.book (happens db r.world e).entries) (happens db r.world e).seen r.announcements)
      lists =
          lists_seen (entered r.book (happens db r.world e).entries) (happens db r.world e).seen r.announcements
          (lists_later r.book (entered r.book (happens db r.world e).entries) r.announcements
          (keeps_lists r.book (happens db r.world e).entries contents.pages.0.0) is.lists) both.0.ordered.listed

      acks : AllKeptAt (entered r.book (happens db r.world e).entries)
          (versions_in (announced (entered r.book (happens db r.world e).entries) (happens db r.world e).seen r.announcements))
          (acknowledged (entered r.book (happens db r.world e).entries) (happens db r.world e).seen r.acknowledged)
      acks =
          acks_seen (entered r.book (happens db r.world e).entries)
          (versions_in (announced (entered r.book (happens db r.world e).entries) (happens db r.world e).seen r.announcements))
          contents.pages.0.0 contents.pages.1 (happens db r.world e).seen r.acknowledged both.1
          (acks_later r.book (entered r.book (happens db r.world e).entries) (versions_in r.announcements)
          (versions_in (announced (entered r.book (happens db r.world e).entries) (happens db r.world e).seen r.announcements)) r.acknowledged
          (keeps_lists r.book (happens db r.world e).entries contents.pages.0.0)
          (told_more (entered r.book (happens db r.world e).entries) (happens db r.world e).seen r.announcements) is.acks)

      givens : AllByRecursion
          (IsGivenAt db (entered r.book (happens db r.world e).entries)
          (versions_in (announced (entered r.book (happens db r.world e).entries) (happens db r.world e).seen r.announcements))
          (versions_of (happens db r.world e).world))
          (given (entered r.book (happens db r.world e).entries) (happens db r.world e).seen r.announcements r.given)
          × ServedRise (given (entered r.book (happens db r.world e).entries) (happens db r.world e).seen r.announcements r.given)
      givens =
          givens_seen db (entered r.book (happens db r.world e).entries) (versions_of (happens db r.world e).world) contents.pages.0.0
          contents.pages.0.1 contents.pages.1 (happens db r.world e).seen (versions_in r.announcements) r.announcements r.given
          (lists_later r.book (entered r.book (happens db r.world e).entries) r.announcements
          (keeps_lists r.book (happens db r.world e).entries contents.pages.0.0) is.lists) both.0.ordered.listed both.0.ordered.follow
          both.0.ordered.rise (ends_itself (versions_in r.announcements)) both.2
          (givens_later db r.book (entered r.book (happens db r.world e).entries) (versions_in r.announcements) (versions_in r.announcements)
          (versions_of r.world) (versions_of (happens db r.world e).world) r.given
          (keeps_lists r.book (happens db r.world e).entries contents.pages.0.0) (λ v told. told) both.3 is.given) is.rise

  along : (r : Run) (x : Leases) (events : List Event) → Knows Called events → CellInvariant r.world x r.book → Ordered r → IsRun db r.world events →
      Ordered (run_through db r events)
  along r x [] knows good is run = is
  along r x (e ∷ events) knows good is run =
      by (happens_good safe db r.world x r.book good e run.0)
      (λ y next. along (run_after db r e) y events (λ k id call is. knows k id call (inr is)) next
      (one_event r x e (λ k id call is. knows k id call (inl is)) good is) run.1)
    where
      by : Result (happens db r.world e).world x (run_after db r e).book →
          ((y : Leases) → CellInvariant (happens db r.world e).world y (run_after db r e).book → Ordered (run_through db r (e ∷ events))) →
          Ordered (run_through db r (e ∷ events))
      by (inl next) rest = rest x next
      by (inr next) rest = rest (runs.after cell_rules x next.0) next.2

  -- what is given later, and what was announced by then
  abbrev NewerAlong : Run → Run → Type 0
  NewerAlong r later = Newer (order_of r.announcements) r.given later.given

  newer_one : (r : Run) (x : Leases) (e : Event) → ((k id : ℕ) (call : List ℕ) → AsksIn e k id call → Called k id call) →
      CellInvariant r.world x r.book → Ordered r →
      Begins (order_of r.announcements) (order_of (run_after db r e).announcements) × NewerAlong r (run_after db r e)
  newer_one r x e asks good is =
      let next : Ordered (run_after db r e) = one_event r x e asks good is in
      let both =
      happens_orders safe premises db Called r.world x r.book good is.contents r.announcements is.kept e asks next.contents.pages.0.0 in
      let lists : ListsOf (run_after db r e).book r.announcements =
      lists_later r.book (run_after db r e).book r.announcements
      (keeps_lists r.book (happens db r.world e).entries next.contents.pages.0.0) is.lists in (
        order_begins db (run_after db r e).book (versions_of (run_after db r e).world) next.contents.pages.0.0 next.contents.pages.0.1
            next.contents.pages.1 (happens db r.world e).seen r.announcements lists next.lists next.kept.ordered.follow next.kept.ordered.rise,
        newer_seen db (run_after db r e).book (versions_of (run_after db r e).world) next.contents.pages.0.0 next.contents.pages.0.1
            next.contents.pages.1 r.announcements lists (happens db r.world e).seen (versions_in r.announcements) r.announcements r.given lists
            next.kept.ordered.listed next.kept.ordered.follow next.kept.ordered.rise (ends_itself (versions_in r.announcements))
            (ends_itself (versions_in r.announcements)) both.2,
      )

  newer_along : (r : Run) (x : Leases) (events : List Event) → Knows Called events → CellInvariant r.world x r.book → Ordered r → IsRun db r.world events →
      NewerAlong r (run_through db r events)
  newer_along r x [] knows good is run = ([], refl, tt)
  newer_along r x (e ∷ events) knows good is run =
      by (happens_good safe db r.world x r.book good e run.0)
      (λ y next. newer_along (run_after db r e) y events (λ k id call is. knows k id call (inr is)) next
      (one_event r x e (λ k id call is. knows k id call (inl is)) good is) run.1)
    where
      one : Begins (order_of r.announcements) (order_of (run_after db r e).announcements) × NewerAlong r (run_after db r e)
      one = newer_one r x e (λ k id call is. knows k id call (inl is)) good is

      both : NewerAlong (run_after db r e) (run_through db (run_after db r e) events) → NewerAlong r (run_through db r (e ∷ events))
      both rest = newer_both (order_of r.announcements) (order_of (run_after db r e).announcements) r.given (run_after db r e).given
          (run_through db (run_after db r e) events).given one.0 one.1 rest

      by : Result (happens db r.world e).world x (run_after db r e).book →
          ((y : Leases) → CellInvariant (happens db r.world e).world y (run_after db r e).book →
          NewerAlong (run_after db r e) (run_through db (run_after db r e) events)) → NewerAlong r (run_through db r (e ∷ events))
      by (inl next) rest = both (rest x next)
      by (inr next) rest = both (rest (runs.after cell_rules x next.0) next.2)

  ordered : (hosts : List Host) (clock : ℕ) (failed : List Bool) (events : List Event) → Knows Called events → IsFirst hosts clock failed →
      IsRun db (first_world hosts clock failed) events → Ordered (run_of db hosts clock failed events)
  ordered hosts clock failed events knows first run =
      along (first_run (first_world hosts clock failed)) (runs.first cell_rules clock failed) events knows (first_good hosts clock failed first)
      (record {
        contents =
            first_keeps db (Both db OnceAndRising both_grew) (BothDurable db OnceAndRising both_grew) (Carries db) (Pages db OnceAndRising both_grew)
            (contents_pass db OnceAndRising both_grew) hosts clock failed ((tt, tt), tt)
            (λ k. (tt, record { list = []; listed = refl; image_is = λ good. refl }));
        kept = first_orders hosts clock failed first;
        lists = tt;
        acks = tt;
        given = tt;
        rise = tt;
        asked = tt;
      }) run

module _ (safe : AreSafe cell_rules) (rests : (n : ℕ) (starts : List (Option ℕ)) → RestsOnGreatest n starts) where
  premises : Premises
  premises = record { overlap = safe.overlap; rests = rests }

  pub announcements_grow : AnnouncementsGrow
  announcements_grow db hosts clock failed events first run =
      let is = ordered safe premises db Any hosts clock failed events (any_known events) first run in
      grows (run_of db hosts clock failed events).book (run_of db hosts clock failed events).announcements is.contents.pages.0.0
      is.contents.pages.0.1 is.contents.pages.1 is.lists is.kept.ordered.follow is.kept.ordered.rise

  pub acknowledged_stay : AcknowledgedStay
  acknowledged_stay db hosts clock failed events more first run then =
      let r = run_of db hosts clock failed events in
      let good = run_good safe db hosts clock failed events first run in
      let is =
      along safe premises db Any r (runs.after_all cell_rules (runs.first cell_rules clock failed) good.0) more (any_known more) good.2
      (ordered safe premises db Any hosts clock failed events (any_known events) first run)
      (subst (λ (w : World). IsRun db w more) (sym (same_world db (first_run (first_world hosts clock failed)) events)) then) in
      let added = run_adds db r more in
      all_of_end (IsPlaced (order_of (run_through db r more).announcements)) (run_through db r more).acknowledged added.0 r.acknowledged
      added.1
      (placed (run_through db r more).book (run_through db r more).announcements (run_through db r more).acknowledged
      is.contents.pages.0.0 is.contents.pages.0.1 is.contents.pages.1 is.lists is.kept.ordered.follow is.kept.ordered.rise is.acks)

  -- a reply of a run, as a single copy gives it
  pub replies_are_single : RepliesAreSingle
  replies_are_single db hosts clock failed events first run =
      let r = run_of db hosts clock failed events in
      let is = ordered safe premises db Any hosts clock failed events (any_known events) first run in
      All-from_recursion (IsSingleReply db r.book (order_of r.announcements)) r.given
      (givens_map (IsGivenAt db r.book (versions_in r.announcements) (versions_of r.world)) (IsSingleReply db r.book (order_of r.announcements))
      r.given
      (λ g given. single_reply db r.book (versions_of r.world) is.contents.pages.0.0 is.contents.pages.0.1 is.contents.pages.1 r.announcements
      is.lists is.kept.ordered.follow is.kept.ordered.rise g given) is.given)

  pub replies_answer_asks : RepliesAnswerAsks
  replies_answer_asks db hosts clock failed events first run =
      let r = run_of db hosts clock failed events in
      let is = ordered safe premises db (WasAsked events) hosts clock failed events (λ k id call asked. asked) first run in
      All-from_recursion (AnswersAsk events) r.given is.asked

  pub replies_are_given : RepliesAreGiven
  replies_are_given db hosts clock failed events e first run =
      let r = run_of db hosts clock failed events in
      let good = run_good safe db hosts clock failed events first run in
      let is = ordered safe premises db Any hosts clock failed events (any_known events) first run in
      let next =
      happens_keeps db (Both db OnceAndRising both_grew) (BothDurable db OnceAndRising both_grew) (Carries db) (Pages db OnceAndRising both_grew)
      (contents_pass db OnceAndRising both_grew) safe r.world (runs.after_all cell_rules (runs.first cell_rules clock failed) good.0) r.book
      good.2 is.contents e in
      let seen =
      happens_orders safe premises db Any r.world (runs.after_all cell_rules (runs.first cell_rules clock failed) good.0) r.book good.2 is.contents
      r.announcements is.kept e (λ k id call asks. tt) next.pages.0.0 in
      All-from_recursion HasEvaluation (happens db r.world e).seen
      (evaluated db (entered r.book (happens db r.world e).entries) (versions_of (happens db r.world e).world) (happens db r.world e).seen
      (versions_in r.announcements) (versions_in r.announcements) seen.2)

  pub replies_have_acknowledged : RepliesHaveAcknowledged
  replies_have_acknowledged db hosts clock failed events more first run then =
      let r = run_of db hosts clock failed events in
      let good = run_good safe db hosts clock failed events first run in
      let is = ordered safe premises db Any hosts clock failed events (any_known events) first run in
      let newer =
      newer_along safe premises db Any r (runs.after_all cell_rules (runs.first cell_rules clock failed) good.0) more (any_known more) good.2 is
      (subst (λ (w : World). IsRun db w more) (sym (same_world db (first_run (first_world hosts clock failed)) events)) then) in
      let acks : AllByRecursion (IsPlaced (order_of r.announcements)) r.acknowledged =
      all_placed r.book r.announcements r.acknowledged is.contents.pages.0.0 is.contents.pages.0.1 is.contents.pages.1 is.lists
      is.kept.ordered.follow is.kept.ordered.rise is.acks in (
        newer.0,
        newer.1,
        All-from_recursion (λ (g : Given). IsAtSync g.evaluation.basis → All (IsPlaced g.order) r.acknowledged) newer.0
            (givens_map (Behind (order_of r.announcements)) (λ (g : Given). IsAtSync g.evaluation.basis → All (IsPlaced g.order) r.acknowledged)
            newer.0
            (λ g behind sync. All-from_recursion (IsPlaced g.order) r.acknowledged
            (placed_on (order_of r.announcements) g.order r.acknowledged (behind sync) acks)) newer.2),
      )

  pub replies_grow : RepliesGrow
  replies_grow db hosts clock failed events first run =
      let r = run_of db hosts clock failed events in
      let is = ordered safe premises db Any hosts clock failed events (any_known events) first run in
      prefixes_stay db r.book (versions_of r.world) is.contents.pages.0.0 is.contents.pages.0.1 is.contents.pages.1 (versions_in r.announcements)
      is.kept.ordered.follow r.given is.given is.rise

  pub sites_serve_the_order : SitesServeTheOrder
  sites_serve_the_order db hosts clock failed events first run k site s get up ready = record { last = last; database = database }
    where
      r : Run
      r = run_of db hosts clock failed events

      is : Ordered safe premises db Any (run_of db hosts clock failed events)
      is = ordered safe premises db Any hosts clock failed events (any_known events) first run

      tests : (leased (member (run_of db hosts clock failed events).world k) s site.clock ≡ true) × (is_ready s.phase ≡ true)
      tests = and_both (leased (member (run_of db hosts clock failed events).world k) s site.clock) (is_ready s.phase) ready

      keeps : ServerKeeps (run_of db hosts clock failed events).world.hosts (versions_of (run_of db hosts clock failed events).world)
          (run_of db hosts clock failed events).world.packets (versions_in (run_of db hosts clock failed events).announcements) k site.clock s
      keeps = (ordered safe premises db Any hosts clock failed events (any_known events) first run).kept.servers k site s get up

      last : (poll : Polled) (spread : Spread) (announced : Version) → s.phase ≡ Ready poll spread announced →
          IsLast (versions_in (run_of db hosts clock failed events).announcements) announced
      last poll spread announced at =
          subst (ServesLast (versions_in (run_of db hosts clock failed events).announcements)) at (keeps.leading tests.0).serves

      image : IsImageOf db (run_of db hosts clock failed events).book s.version s.image
      image =
          (subst
          (NodeKeeps (λ lease. Both db OnceAndRising both_grew k lease (run_of db hosts clock failed events).book)
          (length (run_of db hosts clock failed events).world.hosts) site.clock site.durable) up
          ((ordered safe premises db Any hosts clock failed events (any_known events) first run).contents.sites k site get).node).1.1.image

      served : IsImageOf db (run_of db hosts clock failed events).book (told_version s.phase s.version) (site_database s)
      served =
          served_image db (run_of db hosts clock failed events).book s tests.1 keeps.level
          ((ordered safe premises db Any hosts clock failed events (any_known events) first run).kept.flights k site s get up) image

      database : KeepsImages db → site_database s ≡ image_after db (order_of (run_of db hosts clock failed events).announcements)
      database good =
          let phase = is_served s.phase tests.1 in
          let order : served.list ≡ order_of (run_of db hosts clock failed events).announcements =
          of_last (run_of db hosts clock failed events).book (run_of db hosts clock failed events).announcements phase.2 served.list
          (ordered safe premises db Any hosts clock failed events (any_known events) first run).lists (last phase.0 phase.1 phase.2 phase.3)
          (subst (λ (v : Version). list_of (run_of db hosts clock failed events).book v ≡ Some served.list)
          (ap (λ (p : PhaseRecord). told_version p s.version) phase.3) served.listed) in
          served.image_is good ∙ ap (image_after db) order

  pub majorities_keep : MajoritiesKeep
  majorities_keep db hosts clock failed events first run =
      (ordered safe premises db Any hosts clock failed events (any_known events) first run).kept.majority

  pub writes_are_made : WritesAreMade
  writes_are_made db hosts clock failed events first run k site s get up =
      let r = run_of db hosts clock failed events in
      let is = ordered safe premises db Any hosts clock failed events (any_known events) first run in
      let holds =
      (subst
      (NodeKeeps (λ lease. Both db OnceAndRising both_grew k lease r.book) (length r.world.hosts) site.clock site.durable) up
      (is.contents.sites k site get).node).1.1 in
      record { image = holds.image; flight = is.kept.flights k site s get up; kept = holds.kept }
