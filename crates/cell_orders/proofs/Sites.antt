-- What an event at one server keeps of the order: the server itself, and all others.
use Rattle.std.proofs.Common.{Bool, true, false, cond, ◌==◌, ◌≡◌, ◌⊎◌, inl, inr, ℕ, zero, suc, ◌≤◌, List, [], ◌∷◌, ◌++◌, length}
use Rattle.std.proofs.Common.{set, refl, sym, ap, subst, ◌∙◌, arith}
use Rattle.std.proofs.lemmas.Bool.Decides.{nat_tests}
use Rattle.std.specs.Prelude.{Option, Some, None, slice_get}
use Rattle.ubik_types.specs.declared.hosts.Host.{Host}
use Rattle.ubik_types.specs.declared.versions.Version.{Version}
use Rattle.ubik_types.specs.Lease.{is_in_lease, lease_end}
use Rattle.ubik_types.specs.Phase.{PhaseRecord, NoPhase, Poll, Fetch, Relabel, Send, Ready}
use Rattle.ubik_calls.specs.declared.packets.Packet.{Packet}
use Rattle.db_image.specs.Database.{Database}
use Rattle.cell_model.specs.Book.{Book, entered, clock_in, clock_at}
use Rattle.cell_model.specs.Node.{Up, Server, Flight}
use Rattle.cell_model.specs.World.{World, Site, Entry, SiteHappened, packets_of, happened_at, member, site_of}
use Rattle.cell_laws.proofs.Parts.{no, eq_true}
use Rattle.cell_laws.proofs.Worlds.{site_either}
use Rattle.cell_pages.specs.Parts.{AtMost}
use Rattle.cell_pages.specs.Passes.{is_held}
use Rattle.cell_pages.proofs.Versions.{at_most_same}
use Rattle.cell_pages.specs.Laws.{MadeOnce, KeepsLists}
use Rattle.cell_pages.specs.Moves.{transaction_of}
use Rattle.cell_orders.specs.Asked.{CallsKnown, AllCalled}
use Rattle.cell_orders.specs.Acknowledged.{IsAnnounced, FlightMade, IsLevel, AllOks}
use Rattle.cell_orders.specs.Histories.{stand_of, History, announced_with, number_of}
use Rattle.cell_orders.specs.Kept.{version_in, versions_of, ServerKeeps, OrderKept}
use Rattle.cell_orders.specs.Midst.{version_at, HeldInStep, HasGrown, MidStep}
use Rattle.cell_orders.specs.Orders.{last_announced, IsOrdered, HasMajority, WasSent, IsAsked, IsAnswered, KeptIsKept, AnswersAsked, NumbersPast}
use Rattle.cell_orders.specs.Orders.{NumbersUpTo, HeldSince, PhaseKeeps, PollKeeps, IsCounted, LeaderStands, IsLeading}
use Rattle.cell_orders.specs.Served.{Names, IsNamed, EndsIn, Beyond, AllServed}
use Rattle.cell_orders.proofs.Lists.{keeps_lists}
use Rattle.cell_orders.proofs.Moving.{leads_on}
use Rattle.cell_orders.proofs.Serving.{flown_later, ends_itself, names_later, named_later, named_with, served_names}
use Rattle.cell_orders.proofs.Telling.{announced_more, entered_made}
use Rattle.cell_orders.proofs.Orderings.{sent_cases, at_most_then, kept_map, majority_map, answers_map}

-- ---- durable versions that rise

phase_map : (n : ℕ) (V W : ℕ → Version) (v : Version) (phase : PhaseRecord) → ((j : ℕ) → AtMost (V j) (W j)) → PhaseKeeps n V v phase →
    PhaseKeeps n W v phase
phase_map n V W v NoPhase more is = tt
phase_map n V W v (Poll poll) more is = is
phase_map n V W v (Fetch poll best host) more is = tt
phase_map n V W v (Relabel poll) more is = tt
phase_map n V W v (Send poll spread) more is =
    record { each = is.each; keep = λ j marked. at_most_then v (V j) (W j) (is.keep j marked) (more j) }
phase_map n V W v (Ready poll spread announced) more is =
    record { each = is.each; keep = λ j marked. at_most_then v (V j) (W j) (is.keep j marked) (more j) }

pub server_map : (hosts : List Host) (V W : ℕ → Version) (packets : List Packet) (announced : List Version) (k clock : ℕ) (s : Server) →
    ((j : ℕ) → AtMost (V j) (W j)) → ServerKeeps hosts V packets announced k clock s → ServerKeeps hosts W packets announced k clock s
server_map hosts V W packets announced k clock s more is = record {
  opened = is.opened;
  own = is.own;
  held = is.held;
  holders = phase_map (length hosts) V W s.version s.phase more is.holders;
  leading = λ leased. record {
    poll =
        leads_on (length hosts) V W (IsAnswered hosts packets k) announced s.version s.version (number_of s.phase) (at_most_same s.version)
        more (is.leading leased).poll;
    stands = (is.leading leased).stands;
    serves = (is.leading leased).serves;
  };
  level = is.level;
}

-- ---- one server is another one

pub set_same : (sites : List Site) (k : ℕ) (y z : Site) → slice_get sites k ≡ Some y → slice_get (set sites k z) k ≡ Some z
set_same [] k y z is = absurd (cc)
set_same (x ∷ sites) zero y z is = refl
set_same (x ∷ sites) (suc k) y z is = set_same sites k y z is

set_other : (sites : List Site) (k j : ℕ) (z : Site) → (j ≡ k → ⊥) → slice_get (set sites k z) j ≡ slice_get sites j
set_other [] k j z other = refl
set_other (x ∷ sites) zero zero z other = absurd (other refl)
set_other (x ∷ sites) zero (suc j) z other = refl
set_other (x ∷ sites) (suc k) zero z other = refl
set_other (x ∷ sites) (suc k) (suc j) z other = set_other sites k j z (λ same. other (ap suc same))

eq_false : (a b : ℕ) → (a == b) ≡ false → a ≡ b → ⊥
eq_false a b is same = grind (arith, nat_tests)

-- a flight made its version in a longer book too
pub flight_more : (db : Database) (book : Book) (entries : List Entry) (v : Version) (phase : PhaseRecord) (flight : Option Flight) →
    KeepsLists book (entered book entries) → FlightMade db book v phase flight → FlightMade db (entered book entries) v phase flight
flight_more db book entries v phase flight keeps is f some = (
  (is f some).0,
  entered_made book entries v (transaction_of f.began f.call) (is f some).1,
  flown_later db book (entered book entries) v phase f keeps (is f some).2,
)

within : (p now until : ℕ) → p ≤ now → now ≤ until → (p ≤ now) × (p ≤ until)
within p now until first second = (first, omega arith)

-- which numbers were asked is asked of fewer
numbers_from : (A B : ℕ → Type 0) (opened now : ℕ) (o : Option ℕ) → ((number : ℕ) → B number → A number) → NumbersUpTo A opened now o →
    NumbersUpTo B opened now o
numbers_from A B opened now None f is = λ number asked. is number (f number asked)
numbers_from A B opened now (Some p) f is = λ number asked. is number (f number asked)

module _ (db : Database) (Called : ℕ → ℕ → List ℕ → Type 0) (w : World) (book : Book) (announced : List Version) (keeps : OrderKept db Called w book announced)
    (alone : (j k : ℕ) (y z : Site) (s u : Server) → site_of w j ≡ Some y → site_of w k ≡ Some z → y.node ≡ Up s → z.node ≡ Up u →
    (j ≡ k → ⊥) → is_in_lease (length w.hosts) s.starts y.clock ≡ true → is_in_lease (length w.hosts) u.starts z.clock ≡ true → ⊥) where
  abbrev n : ℕ
  n = length w.hosts

  -- what happened at one server
  pub record Leaves (k : ℕ) (site : Site) (h : SiteHappened) : Type 0 where
    pub clock : h.site.clock ≡ site.clock
    pub ordered : IsOrdered (entered book h.entries) (announced_with h.shown announced)
    pub kept : KeptIsKept w.hosts (w.packets ++ packets_of h.shown) (version_at (versions_of w) k h.site.durable.version)
    pub asked : AnswersAsked w.hosts (w.packets ++ packets_of h.shown)
    pub numbers : NumbersPast w.hosts (w.packets ++ packets_of h.shown) (clock_at w)
    pub majority : HasMajority (length w.hosts) (version_at (versions_of w) k h.site.durable.version) (announced_with h.shown announced)
    pub lease : Bool
    pub leased : lease ≡ true → (s : Server) × (site.node ≡ Up s) × (is_in_lease (length w.hosts) s.starts site.clock ≡ true)
    pub grew : HasGrown (member w k) lease (versions_of w) (record { book = book; announced = announced; packets = w.packets })
        (announced_with h.shown announced) (w.packets ++ packets_of h.shown) h.site.durable.version
    pub server : (s : Server) → h.site.node ≡ Up s →
        ServerKeeps w.hosts (version_at (versions_of w) k h.site.durable.version) (w.packets ++ packets_of h.shown)
        (announced_with h.shown announced) k site.clock s
    pub flight : (s : Server) → h.site.node ≡ Up s → FlightMade db (entered book h.entries) s.version s.phase s.flight
    pub oks : AllOks (entered book h.entries) (announced_with h.shown announced) h.shown
    pub beacon : (s : Server) → h.site.node ≡ Up s → IsNamed (announced_with h.shown announced) s.beacon
    pub calls : (s : Server) → h.site.node ≡ Up s → CallsKnown (Called k) s.flight s.waiting
    pub called : AllCalled (Called k) h.shown
    pub served : MadeOnce (entered book h.entries) → (since : List Version) → EndsIn since announced →
        AllServed db (record { book = entered book h.entries; top = h.site.durable.version }) since announced h.shown

  module _ (k : ℕ) (site : Site) (h : SiteHappened) (get : site_of w k ≡ Some site) (leaves : Leaves k site h) where
    abbrev later : World
    later = (happened_at w k h).world

    -- the durable versions after it
    version_later : (j : ℕ) → AtMost (version_at (versions_of w) k h.site.durable.version j) (versions_of later j)
    version_later j = by (j == k) refl
      where
        by : (t : Bool) → (j == k) ≡ t → AtMost (cond t h.site.durable.version (versions_of w j)) (version_in (slice_get (set w.sites k h.site) j))
        by true is =
            let at : slice_get (set w.sites k h.site) j ≡ Some h.site =
            subst (λ (i : ℕ). slice_get (set w.sites k h.site) i ≡ Some h.site) (sym (eq_true j k is)) (set_same w.sites k site h.site get) in
            subst (λ (o : Option Site). AtMost h.site.durable.version (version_in o)) (sym at) (at_most_same h.site.durable.version)
        by false is =
            subst (λ (o : Option Site). AtMost (versions_of w j) (version_in o)) (sym (set_other w.sites k j h.site (eq_false j k is)))
            (at_most_same (versions_of w j))

    pub version_rises : (j : ℕ) → AtMost (versions_of w j) (versions_of later j)
    version_rises j =
        at_most_then (versions_of w j) (version_at (versions_of w) k h.site.durable.version j) (versions_of later j) (by (j == k) refl)
        (version_later j)
      where
        by : (t : Bool) → (j == k) ≡ t → AtMost (versions_of w j) (cond t h.site.durable.version (versions_of w j))
        by true is =
            subst (λ (i : ℕ). AtMost (versions_of w i) h.site.durable.version) (sym (eq_true j k is)) leaves.grew.past
        by false is = at_most_same (versions_of w j)

    clock_later : (j : ℕ) → clock_at w j ≤ clock_at later j
    clock_later j = by (j == k) refl
      where
        by : (t : Bool) → (j == k) ≡ t → clock_at w j ≤ clock_in (slice_get (set w.sites k h.site) j)
        by true is =
            let same : j ≡ k = eq_true j k is in
            let first : clock_at w j ≡ site.clock =
            ap (λ (i : ℕ). clock_in (slice_get w.sites i)) same ∙ ap clock_in get in
            let second : clock_in (slice_get (set w.sites k h.site) j) ≡ h.site.clock =
            ap (λ (i : ℕ). clock_in (slice_get (set w.sites k h.site) i)) same ∙ ap clock_in (set_same w.sites k site h.site get) in
            let third : h.site.clock ≡ site.clock = leaves.clock in
            omega arith
        by false is =
            let same : clock_in (slice_get (set w.sites k h.site) j) ≡ clock_at w j =
            ap clock_in (set_other w.sites k j h.site (eq_false j k is)) in
            omega arith

    abbrev packets : List Packet
    packets = w.packets ++ packets_of h.shown

    abbrev after : List Version
    after = announced_with h.shown announced

    -- ---- another server

    module _ (j : ℕ) (z : Site) (s : Server) (other : j ≡ k → ⊥) (at : site_of w j ≡ Some z) (up : z.node ≡ Up s) where
      old : ServerKeeps w.hosts (versions_of w) w.packets announced j z.clock s
      old = keeps.servers j z s at up

      poll_still : (o : Option ℕ) → PollKeeps n (versions_of w) (IsAnswered w.hosts w.packets j) announced s.version o →
          PollKeeps n (versions_of later) (IsAnswered w.hosts packets j) announced s.version o
      poll_still None is = tt
      poll_still (Some p) (inl is) = inl is
      poll_still (Some p) (inr keep) =
          inr (answers_map n (versions_of w) (versions_of later) (λ i. IsAnswered w.hosts w.packets j i p)
          (λ i. IsAnswered w.hosts (w.packets ++ packets_of h.shown) j i p) announced version_rises keep
          (λ i v marked answered. by i v marked (leaves.grew.told j i p v answered)))
        where
          by : (i : ℕ) (v : Version) → slice_get keep.majority.set i ≡ Some true →
              IsAnswered w.hosts w.packets j i p v ⊎ ((i ≡ k) × AtMost (versions_of w k) v) → AtMost (last_announced announced) v
          by i v marked (inl was) = keep.told i v marked was
          by i v marked (inr new) =
              at_most_then (last_announced announced) (versions_of w i) v (keep.majority.keeps i marked)
              (subst (λ (l : ℕ). AtMost (versions_of w l) v) (sym new.0) new.1)

      counted_still : (number i : ℕ) (v : Version) → IsCounted j s.version (λ l. IsAnswered w.hosts w.packets j l number) i v →
          IsCounted j s.version (λ l. IsAnswered w.hosts (w.packets ++ packets_of h.shown) j l number) i v
      counted_still number i v (inl own) = inl own
      counted_still number i v (inr a) = inr (a.0, leaves.grew.more a.0 a.1, a.2, a.3, a.4)

      stands_still : (phase : PhaseRecord) → LeaderStands j (IsAnswered w.hosts w.packets j) announced s.version phase →
          LeaderStands j (IsAnswered w.hosts packets j) announced s.version phase
      stands_still NoPhase is = tt
      stands_still (Poll poll) is = λ i v get. counted_still poll.number i v (is i v get)
      stands_still (Fetch poll best host) is = is
      stands_still (Relabel poll) is = is
      stands_still (Send poll spread) is = is
      stands_still (Ready poll spread a) is = is

      leads_still : is_in_lease (length w.hosts) s.starts z.clock ≡ true →
          IsLeading n j (versions_of later) (IsAnswered w.hosts packets j) after s.version s.phase
      leads_still leased = by leaves.lease refl
        where
          by : (t : Bool) → leaves.lease ≡ t → IsLeading n j (versions_of later) (IsAnswered w.hosts packets j) after s.version s.phase
          by true is =
              let mine = leaves.leased is in
              absurd (alone j k z site s mine.0 at get up mine.1 other leased mine.2)
          by false is =
              subst
              (λ (a : List Version).
              IsLeading n j (versions_of later) (IsAnswered w.hosts (w.packets ++ packets_of h.shown) j) a s.version s.phase)
              (sym (leaves.grew.still is))
              (record {
                poll = poll_still (number_of s.phase) (old.leading leased).poll;
                stands = stands_still s.phase (old.leading leased).stands;
                serves = (old.leading leased).serves;
              })

      other_keeps : ServerKeeps w.hosts (versions_of later) packets after j z.clock s
      other_keeps = record {
        opened = old.opened;
        own =
            numbers_from (IsAsked w.hosts w.packets j) (IsAsked w.hosts packets j) s.opened z.clock (number_of s.phase)
            (λ number asked. leaves.grew.asked j number other asked) old.own;
        held = old.held;
        holders = phase_map n (versions_of w) (versions_of later) s.version s.phase version_rises old.holders;
        leading = leads_still;
        level = old.level;
      }

    own_keeps : (j : ℕ) (z : Site) (s : Server) → j ≡ k → z ≡ h.site → z.node ≡ Up s →
        ServerKeeps w.hosts (versions_of later) packets after j z.clock s
    own_keeps j z s same is up =
        subst (λ (i : ℕ). ServerKeeps w.hosts (versions_of later) packets after i z.clock s) (sym same)
        (subst (λ (c : ℕ). ServerKeeps w.hosts (versions_of later) packets after k c s)
        (sym leaves.clock ∙ ap (λ (y : Site). y.clock) (sym is))
        (server_map w.hosts (version_at (versions_of w) k h.site.durable.version) (versions_of later) packets after k site.clock s
        version_later (leaves.server s (ap (λ (y : Site). y.node) (sym is) ∙ up))))

    more_told : (v : Version) → IsAnnounced announced v → IsAnnounced (announced_with h.shown announced) v
    more_told v told = announced_more h.shown announced v told

    pub happened_keeps : MadeOnce (entered book h.entries) →
        OrderKept db Called (happened_at w k h).world (entered book h.entries) (announced_with h.shown announced)
    happened_keeps once = record {
      ordered = leaves.ordered;
      kept = kept_map w.hosts packets (version_at (versions_of w) k h.site.durable.version) (versions_of later) version_later leaves.kept;
      asked = leaves.asked;
      numbers = λ j number asked.
          (let first : number ≤ clock_at w j = leaves.numbers j number asked in
          let second : clock_at w j ≤ clock_at later j = clock_later j in
          omega arith);
      majority =
          majority_map n (version_at (versions_of w) k h.site.durable.version) (versions_of later) after version_later leaves.majority;
      servers = λ j z s at up. by j z s up (site_either w.sites k j h.site z at);
      flights = λ j z s at up. flown j z s up (site_either w.sites k j h.site z at);
      names = λ p sent. named p (sent_cases w.packets (packets_of h.shown) p sent);
      beacons = λ j z s at up. beacon j z s up (site_either w.sites k j h.site z at);
      calls = λ j z s at up. calls j z s up (site_either w.sites k j h.site z at);
    }
      where
        flown : (j : ℕ) (z : Site) (s : Server) → z.node ≡ Up s →
            ((j ≡ k) × (z ≡ h.site)) ⊎ ((j ≡ k → ⊥) × (slice_get w.sites j ≡ Some z)) →
            FlightMade db (entered book h.entries) s.version s.phase s.flight
        flown j z s up (inl own) = leaves.flight s (ap (λ (y : Site). y.node) (sym own.1) ∙ up)
        flown j z s up (inr other) =
            flight_more db book h.entries s.version s.phase s.flight (keeps_lists book h.entries once) (keeps.flights j z s other.1 up)

        named : (p : Packet) → WasSent w.packets p ⊎ WasSent (packets_of h.shown) p → Names (announced_with h.shown announced) p.body
        named p (inl old) = names_later announced (announced_with h.shown announced) p.body more_told (keeps.names p old)
        named p (inr new) =
            served_names db (record { book = entered book h.entries; top = h.site.durable.version }) announced announced h.shown p
            (leaves.served once announced (ends_itself announced)) new

        calls : (j : ℕ) (z : Site) (s : Server) → z.node ≡ Up s →
            ((j ≡ k) × (z ≡ h.site)) ⊎ ((j ≡ k → ⊥) × (slice_get w.sites j ≡ Some z)) → CallsKnown (Called j) s.flight s.waiting
        calls j z s up (inl own) =
            subst (λ (i : ℕ). CallsKnown (Called i) s.flight s.waiting) (sym own.0)
            (leaves.calls s (ap (λ (y : Site). y.node) (sym own.1) ∙ up))
        calls j z s up (inr other) = keeps.calls j z s other.1 up

        beacon : (j : ℕ) (z : Site) (s : Server) → z.node ≡ Up s →
            ((j ≡ k) × (z ≡ h.site)) ⊎ ((j ≡ k → ⊥) × (slice_get w.sites j ≡ Some z)) →
            IsNamed (announced_with h.shown announced) s.beacon
        beacon j z s up (inl own) = leaves.beacon s (ap (λ (y : Site). y.node) (sym own.1) ∙ up)
        beacon j z s up (inr other) =
            named_later announced (announced_with h.shown announced) s.beacon more_told (keeps.beacons j z s other.1 up)

        by : (j : ℕ) (z : Site) (s : Server) → z.node ≡ Up s →
            ((j ≡ k) × (z ≡ h.site)) ⊎ ((j ≡ k → ⊥) × (slice_get w.sites j ≡ Some z)) →
            ServerKeeps w.hosts (versions_of later) packets after j z.clock s
        by j z s up (inl own) = own_keeps j z s own.0 own.1 up
        by j z s up (inr other) = other_keeps j z s other.0 other.1 up

  -- ---- nothing is put out, and nobody becomes another one

  module _ (k : ℕ) (site : Site) (h : SiteHappened) (get : site_of w k ≡ Some site) where
    pub quiet_leaves : h.site.clock ≡ site.clock → IsOrdered (entered book h.entries) announced →
        AtMost site.durable.version h.site.durable.version → announced_with h.shown announced ≡ announced →
        w.packets ++ packets_of h.shown ≡ w.packets →
        ((s : Server) → h.site.node ≡ Up s → ServerKeeps w.hosts (versions_of w) w.packets announced k site.clock s) →
        ((s : Server) → h.site.node ≡ Up s → FlightMade db (entered book h.entries) s.version s.phase s.flight) →
        AllOks (entered book h.entries) (announced_with h.shown announced) h.shown →
        ((s : Server) → h.site.node ≡ Up s → IsNamed announced s.beacon) →
        ((s : Server) → h.site.node ≡ Up s → CallsKnown (Called k) s.flight s.waiting) → AllCalled (Called k) h.shown →
        ((x : Beyond) (since : List Version) → AllServed db x since announced h.shown) → Leaves k site h
    quiet_leaves clock ordered more same_announced same_packets server flight oks beacon calls called served =
        whole (subst (λ (a : List Version). Of a (w.packets ++ packets_of h.shown)) (sym same_announced)
        (subst (λ (p : List Packet). Of announced p) (sym same_packets) here))
      where
        v : Version
        v = h.site.durable.version

        past : AtMost (versions_of w k) h.site.durable.version
        past = subst (λ (o : Option Site). AtMost (version_in o) h.site.durable.version) (sym get) more

        raised : (j : ℕ) → AtMost (versions_of w j) (version_at (versions_of w) k h.site.durable.version j)
        raised j = by (j == k) refl
          where
            by : (t : Bool) → (j == k) ≡ t → AtMost (versions_of w j) (cond t h.site.durable.version (versions_of w j))
            by true is = subst (λ (i : ℕ). AtMost (versions_of w i) h.site.durable.version) (sym (eq_true j k is)) past
            by false is = at_most_same (versions_of w j)

        Of : List Version → List Packet → Type 0
        Of a p =
            IsOrdered (entered book h.entries) a × KeptIsKept w.hosts p (version_at (versions_of w) k h.site.durable.version)
            × AnswersAsked w.hosts p × NumbersPast w.hosts p (clock_at w)
            × HasMajority (length w.hosts) (version_at (versions_of w) k h.site.durable.version) a
            × HasGrown (member w k) false (versions_of w) (record { book = book; announced = announced; packets = w.packets }) a p
            h.site.durable.version
            × ((s : Server) → h.site.node ≡ Up s →
            ServerKeeps w.hosts (version_at (versions_of w) k h.site.durable.version) p a k site.clock s)

        here : Of announced w.packets
        here = (
          ordered,
          kept_map w.hosts w.packets (versions_of w) (version_at (versions_of w) k h.site.durable.version) raised keeps.kept,
          keeps.asked,
          keeps.numbers,
          majority_map (length w.hosts) (versions_of w) (version_at (versions_of w) k h.site.durable.version) announced raised keeps.majority,
          record {
            more = λ p is. is;
            asked = λ j number other is. is;
            told = λ j i number x is. inl is;
            past = past;
            still = λ _. refl;
          },
          λ s up. server_map w.hosts (versions_of w) (version_at (versions_of w) k h.site.durable.version) w.packets announced k site.clock s
              raised (server s up),
        )

        whole : Of (announced_with h.shown announced) (w.packets ++ packets_of h.shown) → Leaves k site h
        whole all = record {
          clock = clock;
          ordered = all.0;
          kept = all.1;
          asked = all.2;
          numbers = all.3;
          majority = all.4;
          lease = false;
          leased = λ is. no is;
          grew = all.5;
          server = all.6;
          flight = flight;
          oks = oks;
          beacon = λ s up. named_with h.shown announced s.beacon (beacon s up);
          calls = calls;
          called = called;
          served = λ once since ends. served (record { book = entered book h.entries; top = h.site.durable.version }) since;
        }

  -- ---- a step of a server that is up

  held_numbered : (phase : PhaseRecord) (lease : Bool) (now until : ℕ) → (is_held phase ≡ true → now ≤ until) →
      HeldInStep lease now (number_of phase) → HeldSince now until (number_of phase)
  held_numbered NoPhase lease now until leased held = tt
  held_numbered (Poll poll) lease now until leased held = within poll.number now until held.0 (leased refl)
  held_numbered (Fetch poll best host) lease now until leased held = within poll.number now until held.0 (leased refl)
  held_numbered (Relabel poll) lease now until leased held = within poll.number now until held.0 (leased refl)
  held_numbered (Send poll spread) lease now until leased held = within poll.number now until held.0 (leased refl)
  held_numbered (Ready poll spread a) lease now until leased held = within poll.number now until held.0 (leased refl)

  -- who holds no phase stands nowhere
  leads_where : (phase : PhaseRecord) (lease : Bool) (k : ℕ) (W : ℕ → Version) (A : ℕ → ℕ → Version → Type 0) (a : List Version)
      (v : Version) → (is_held phase ≡ true → lease ≡ true) → (lease ≡ true → IsLeading n k W A a v phase) → IsLeading n k W A a v phase
  leads_where NoPhase lease k W A a v held leads = record { poll = tt; stands = tt; serves = tt }
  leads_where (Poll poll) lease k W A a v held leads = leads (held refl)
  leads_where (Fetch poll best host) lease k W A a v held leads = leads (held refl)
  leads_where (Relabel poll) lease k W A a v held leads = leads (held refl)
  leads_where (Send poll spread) lease k W A a v held leads = leads (held refl)
  leads_where (Ready poll spread announced) lease k W A a v held leads = leads (held refl)

  pub mid_server : (k now : ℕ) (lease : Bool) (h : History) (s : Server) (v : Version) → s.version ≡ v →
      (is_held s.phase ≡ true → lease ≡ true) → IsLevel s.version s.phase s.flight →
      MidStep (member w k) now lease (versions_of w) (clock_at w) (record { book = book; announced = announced; packets = w.packets }) h
      (stand_of s) → ServerKeeps w.hosts (version_at (versions_of w) k v) h.packets h.announced k now s
  mid_server k now lease h s v same held level mid =
      subst (λ (u : Version). ServerKeeps w.hosts (version_at (versions_of w) k u) h.packets h.announced k now s) same
      (record {
        opened = mid.opened;
        own = mid.own;
        held = held_numbered s.phase lease now (lease_end (length w.hosts) s.starts) (λ is. mid.until (held is)) mid.held;
        holders = mid.holders;
        leading = λ _. leads_where s.phase lease k (version_at (versions_of w) k s.version) (IsAnswered w.hosts h.packets k) h.announced
            s.version held mid.leading;
        level = level;
      })
