-- Each event of the world keeps what holds of a cell and of the model of leases beside it; and so does each run.
use Rattle.std.proofs.Common.{Bool, true, false, ◌≡◌, ℕ, zero, suc, ◌+◌, ◌<◌, ◌≤◌, ◌==◌, List, [], ◌∷◌, length, map, set, refl, sym, ap}
use Rattle.std.proofs.Common.{subst, ◌∙◌, ◌⊎◌, inl, inr, arith}
use Rattle.std.proofs.lemmas.Bool.Decides.{nat_tests}
use Rattle.std.proofs.lemmas.List.{map-set, length-map}
use Rattle.std.specs.Prelude.{Option, Some, None, ◌&&◌, nat_lt, slice_get, option_and_then, option_map}
use Rattle.ubik_types.specs.declared.limits.TheConstants.{SKEW}
use Rattle.ubik_types.specs.declared.versions.Version.{Version}
use Rattle.ubik_calls.specs.declared.packets.Packet.{Packet}
use Rattle.db_image.specs.Database.{Database}
use Rattle.lease_model.specs.Invariant.{Invariant, WereGiven}
use Rattle.lease_model.specs.Leases as leases
use Rattle.lease_model.specs.Leases.{Leases}
use Rattle.lease_model.specs.Rules.{AreSafe, cell_rules}
use Rattle.lease_model.specs.Runs as runs
use Rattle.lease_model.proofs.Exclude.{separated}
use Rattle.lease_model.proofs.Places.{and_both, within_get}
use Rattle.lease_model.proofs.Steps.{step_keeps}
use Rattle.cell_model.specs.declared.events.NodeEvent.{NodeEvent}
use Rattle.cell_model.specs.declared.events.NodeEvent.TheVariants as event
use Rattle.cell_model.specs.Book.{BookVersion, Book, with_version, entered}
use Rattle.cell_model.specs.Durable.{Durable, Made, Reason, Own_relabelling, Committed, Received, version_after}
use Rattle.cell_model.specs.NodeRule.{place_of}
use Rattle.cell_model.specs.Step.{Member}
use Rattle.cell_model.specs.World.{World, Site, Trigger, Delivery, Beacon_turn, Recover_turn, Asking, Event, Tick, Tick_all, Step, Stop}
use Rattle.cell_model.specs.World.{Fault, Crash, Restart, Entry, SiteHappened, entries_from, packets_of, happened_at, happens_at, step_at}
use Rattle.cell_model.specs.World.{stop_at, fault_at, crash_at, restart_at, ticked, tick_at, packet_numbered, delivered, occasion, member}
use Rattle.cell_model.specs.World.{site_of, triggered, happens, clocks_of, are_near, may_tick, is_event}
use Rattle.cell_laws.specs.Laws.{AllBelow, Rises}
use Rattle.cell_laws.specs.View.{view}
use Rattle.cell_laws.proofs.Parts.{AreLegal, IsLegalCall}
use Rattle.cell_laws.specs.Invariant.{AllTold, NodeHolds, VersionHolds, AllVersions, CellInvariant}
use Rattle.cell_laws.proofs.Told.{Grew, grew_none, all_more, all_append, all_get, shown_told}
use Rattle.cell_laws.proofs.Sites.{given_more, holds_more, EventTold, Here, IsSeen}
use Rattle.cell_laws.proofs.Events.{Moved, step_moves, stop_moves_at, fault_moves_at, crash_moves, restart_moves}

-- ---- lists of servers

site_length : (sites : List Site) (k : ℕ) (site : Site) → length (set sites k site) ≡ length sites
site_length [] k site = refl
site_length (z ∷ sites) zero site = refl
site_length (z ∷ sites) (suc k) site = ap suc (site_length sites k site)

-- what stands at a place after one server is another one
pub site_either : (sites : List Site) (k j : ℕ) (site z : Site) → slice_get (set sites k site) j ≡ Some z →
    ((j ≡ k) × (z ≡ site)) ⊎ ((j ≡ k → ⊥) × (slice_get sites j ≡ Some z))
site_either [] k j site z is = absurd (cc)
site_either (y ∷ sites) zero zero site z is = inl (refl, cc)
site_either (y ∷ sites) zero (suc j) site z is = inr (λ same. omega arith, is)
site_either (y ∷ sites) (suc k) zero site z is = inr (λ same. omega arith, is)
site_either (y ∷ sites) (suc k) (suc j) site z is = later (site_either sites k j site z is)
  where
    later : ((j ≡ k) × (z ≡ site)) ⊎ ((j ≡ k → ⊥) × (slice_get sites j ≡ Some z)) →
        ((suc j ≡ suc k) × (z ≡ site)) ⊎ ((suc j ≡ suc k → ⊥) × (slice_get sites j ≡ Some z))
    later (inl p) = inl (ap suc p.0, p.1)
    later (inr p) = inr (λ same. p.0 (omega arith), p.1)

view_get : (sites : List Site) (k : ℕ) (site : Site) → slice_get sites k ≡ Some site → slice_get (map view sites) k ≡ Some (view site)
view_get [] k site is = absurd (cc)
view_get (z ∷ sites) zero site is = let same : z ≡ site = cc in ap (λ (y : Site). Some (view y)) same
view_get (z ∷ sites) (suc k) site is = view_get sites k site is

set_same : (xs : List leases.Server) (k : ℕ) (y : leases.Server) → slice_get xs k ≡ Some y → xs ≡ set xs k y
set_same [] k y is = refl
set_same (z ∷ xs) zero y is = let same : z ≡ y = cc in ap (λ (a : leases.Server). a ∷ xs) same
set_same (z ∷ xs) (suc k) y is = ap (λ (rest : List leases.Server). z ∷ rest) (set_same xs k y is)

versions_map : (P Q : BookVersion → Type 0) (book : Book) → ((p : BookVersion) → P p → Q p) → AllVersions P book → AllVersions Q book
versions_map P Q [] f all = tt
versions_map P Q (p ∷ book) f all = (f p all.0, versions_map P Q book f all.1)

pub here_of : (w : World) (x : Leases) (book : Book) (k : ℕ) (site : Site) → CellInvariant w x book → site_of w k ≡ Some site →
    Here w.hosts x k site
here_of w x book k site good is = record {
  get = subst (λ (xs : List leases.Server). slice_get xs k ≡ Some (view site)) (sym good.servers) (view_get w.sites k site is);
  size = ap length good.servers ∙ length-map w.sites view ∙ good.size;
  own =
      good.own k
      (let h : k < length w.sites = within_get w.sites k site is in let same : length w.sites ≡ length w.hosts = good.size in omega arith);
  moment = good.moments k site is;
  kept = good.kept;
  holds = good.holds k site is;
}

-- ---- the book

eq_true : (a b : ℕ) → (a == b) ≡ true → a ≡ b
eq_true a b is = grind (arith, nat_tests)

eq_false : (a b : ℕ) → (a == b) ≡ false → a ≡ b → ⊥
eq_false a b is same = grind (arith, nat_tests)

all_below : (P : BookVersion → Type 0) (epoch : ℕ) (book : Book) → 0 < epoch → ((p : BookVersion) → P p → p.version.epoch < epoch) →
    AllVersions P book → AllBelow epoch book
all_below P epoch [] some f all = some
all_below P epoch (p ∷ book) some f all = (f p all.0, all_below P epoch book some f all.1)

module _ (safe : AreSafe cell_rules) (w : World) (x : Leases) (k : ℕ) (site : Site) (here : Here w.hosts x k site) where
  abbrev Claim : ℕ → Type 0
  Claim = WereGiven cell_rules x k

  -- a version in the book, while this server has one
  abbrev Upto : Version → BookVersion → Type 0
  Upto v p =
      WereGiven cell_rules x p.maker p.version.epoch
      × (p.maker ≡ k → p.version.epoch ≤ v.epoch)
      × ((p.maker ≡ k → ⊥) → (z : Site) → slice_get w.sites p.maker ≡ Some z → p.version.epoch ≤ z.durable.version.epoch)

  upto_more : (v new : Version) → v.epoch ≤ new.epoch → (p : BookVersion) → Upto v p → Upto new p
  upto_more v new rises p is = (is.0, λ own. (let h : p.version.epoch ≤ v.epoch = is.1 own in omega arith), is.2)

  -- in lease this server is past the epoch of every version in the book, and may make its clock the next one
  past : (v : Version) → v.epoch < site.clock → Claim site.clock → (p : BookVersion) → Upto v p → p.version.epoch < site.clock
  past v less claim p is = by (p.maker == k) refl
    where
      by : (b : Bool) → (p.maker == k) ≡ b → p.version.epoch < site.clock
      by true own = let h : p.version.epoch ≤ v.epoch = is.1 (eq_true p.maker k own) in omega arith
      by false other =
          separated cell_rules x p.maker k p.version.epoch (view site) safe here.kept is.0 here.get claim (eq_false p.maker k other)

  version_enters : (v new : Version) (reason : Reason) (book : Book) → IsLegalCall (Claim site.clock) Claim site.clock v new reason →
      AllVersions (Upto v) book × Rises book →
      AllVersions (Upto new) (with_version book k v new reason) × Rises (with_version book k v new reason)
  version_enters v new Own_relabelling book legal kept =
      let less : v.epoch < new.epoch = legal.0 in
      let is_now : new.epoch ≡ site.clock = legal.1 in
      let less_now : v.epoch < site.clock = omega arith in
      let rises : v.epoch ≤ new.epoch = omega arith in (
        (
          (subst Claim (sym is_now) legal.2, λ own. omega arith, λ other. absurd (other refl)),
          versions_map (Upto v) (Upto new) book (upto_more v new rises) kept.0,
        ),
        (
          λ none. subst (λ (e : ℕ). AllBelow e book) (sym is_now)
              (all_below (Upto v) site.clock book here.moment (past v less_now legal.2) kept.0),
          kept.1,
        ),
      )
  version_enters v new (Committed t) book legal kept =
      let same : new.epoch ≡ v.epoch = legal.0 in
      let rises : v.epoch ≤ new.epoch = omega arith in (
        (
          (subst Claim (sym same) legal.1, λ own. omega arith, λ other. absurd (other refl)),
          versions_map (Upto v) (Upto new) book (upto_more v new rises) kept.0,
        ),
        (λ none. absurd (cc), kept.1),
      )
  version_enters v new Received book legal kept = (versions_map (Upto v) (Upto new) book (upto_more v new legal) kept.0, kept.1)

  versions_enter : (v last : Version) (calls : List Made) (book : Book) → AreLegal (Claim site.clock) Claim site.clock v calls last →
      AllVersions (Upto v) book × Rises book →
      AllVersions (Upto last) (entered book (entries_from k v calls)) × Rises (entered book (entries_from k v calls))
  versions_enter v last [] book legal kept = subst (λ (u : Version). AllVersions (Upto u) book × Rises book) legal kept
  versions_enter v last (made ∷ calls) book legal kept =
      versions_enter (version_after made.call) last calls (with_version book k v (version_after made.call) made.reason) legal.1
      (version_enters v (version_after made.call) made.reason book legal.0 kept)

-- ---- what happens at one server

-- A cell after an event, and its book: the model is as it was, or after an event of its own.
abbrev pub Result : World → Leases → Book → Type 0
Result w x book =
    CellInvariant w x book ⊎ ((e : runs.Event) × runs.IsEvent cell_rules x e × CellInvariant w (runs.after cell_rules x e) book)

module _ (safe : AreSafe cell_rules) (w : World) (x : Leases) (book : Book) (good : CellInvariant w x book) (k : ℕ) (site : Site)
    (is_at : site_of w k ≡ Some site) (h : SiteHappened) (moved : Moved w.hosts x k site h) where
  here : Here w.hosts x k site
  here = here_of w x book k site good is_at

  upto : (p : BookVersion) → VersionHolds w.sites x p → Upto safe w x k site here site.durable.version p
  upto p is =
      (is.0, λ own. is.1 site (subst (λ (j : ℕ). slice_get w.sites j ≡ Some site) (sym own) is_at), λ other. is.1)

  entered_is : AllVersions (Upto safe w x k site here h.site.durable.version) (entered book h.entries) × Rises (entered book h.entries)
  entered_is =
      subst
      (λ (entries : List Entry). AllVersions (Upto safe w x k site here h.site.durable.version) (entered book entries)
      × Rises (entered book entries))
      (sym moved.entries)
      (versions_enter safe w x k site here site.durable.version h.site.durable.version moved.calls book moved.legal
      (versions_map (VersionHolds w.sites x) (Upto safe w x k site here site.durable.version) book upto good.versions, good.rises))

  next_good : (y : Leases) → Invariant cell_rules y → Grew x y → y.servers ≡ set x.servers k (view h.site) →
      AllTold w.hosts y (packets_of h.shown) → CellInvariant (happened_at w k h).world y (entered book h.entries)
  next_good y kept grew servers told = record {
    servers = servers ∙ ap (λ (xs : List leases.Server). set xs k (view h.site)) good.servers ∙ sym (map-set view w.sites k h.site);
    told = all_append w.hosts y w.packets (packets_of h.shown) (all_more w.hosts x y w.packets grew good.told) told;
    own = good.own;
    size = site_length w.sites k h.site ∙ good.size;
    moments = moments;
    holds = holds;
    kept = kept;
    versions =
        versions_map (Upto safe w x k site here h.site.durable.version) (VersionHolds (set w.sites k h.site) y)
        (entered book h.entries) in_book entered_is.0;
    rises = entered_is.1;
  }
    where
      moments : (j : ℕ) (z : Site) → slice_get (set w.sites k h.site) j ≡ Some z → 0 < z.clock
      moments j z is = by (site_either w.sites k j h.site z is)
        where
          by : ((j ≡ k) × (z ≡ h.site)) ⊎ ((j ≡ k → ⊥) × (slice_get w.sites j ≡ Some z)) → 0 < z.clock
          by (inl p) = subst (λ (c : ℕ). 0 < c) (sym moved.clock ∙ ap (λ (s : Site). s.clock) (sym p.1)) here.moment
          by (inr p) = good.moments j z p.1

      holds : (j : ℕ) (z : Site) → slice_get (set w.sites k h.site) j ≡ Some z → NodeHolds y j z.durable z.node
      holds j z is = by (site_either w.sites k j h.site z is)
        where
          by : ((j ≡ k) × (z ≡ h.site)) ⊎ ((j ≡ k → ⊥) × (slice_get w.sites j ≡ Some z)) → NodeHolds y j z.durable z.node
          by (inl p) =
              subst (λ (s : Site). NodeHolds y j s.durable s.node) (sym p.1)
              (subst (λ (i : ℕ). NodeHolds y i h.site.durable h.site.node) (sym p.0)
              (holds_more x y k h.site.durable h.site.node grew moved.holds))
          by (inr p) = holds_more x y j z.durable z.node grew (good.holds j z p.1)

      in_book : (p : BookVersion) → Upto safe w x k site here h.site.durable.version p → VersionHolds (set w.sites k h.site) y p
      in_book p is = (given_more x y p.maker p.version.epoch grew is.0, last)
        where
          last : (z : Site) → slice_get (set w.sites k h.site) p.maker ≡ Some z → p.version.epoch ≤ z.durable.version.epoch
          last z get = by (site_either w.sites k p.maker h.site z get)
            where
              by : ((p.maker ≡ k) × (z ≡ h.site)) ⊎ ((p.maker ≡ k → ⊥) × (slice_get w.sites p.maker ≡ Some z)) →
                  p.version.epoch ≤ z.durable.version.epoch
              by (inl q) = subst (λ (s : Site). p.version.epoch ≤ s.durable.version.epoch) (sym q.1) (is.1 q.0)
              by (inr q) = is.2 q.0 z q.1

  pub moved_good : Result (happened_at w k h).world x (entered book h.entries)
  moved_good = by moved.seen
    where
      by : IsSeen w.hosts x k (view site) (view h.site) h.shown → Result (happened_at w k h).world x (entered book h.entries)
      by (inl quiet) =
          inl (next_good x good.kept (grew_none x)
          (set_same x.servers k (view h.site) (here.get ∙ ap (λ (y : leases.Server). Some y) (sym quiet.0)))
          (shown_told w.hosts x h.shown quiet.1))
      by (inr voted) =
          inr (
            voted.e,
            voted.may,
            subst (λ (y : Leases). CellInvariant (happened_at w k h).world y (entered book h.entries)) (sym voted.is_next)
                (next_good voted.next
                (subst (Invariant cell_rules) voted.is_next (step_keeps cell_rules x voted.e safe.binds voted.may good.kept))
                voted.grew voted.servers (shown_told w.hosts voted.next h.shown voted.told)),
          )

-- ---- where a trigger brings a step

abbrev packet_at : Packet → ℕ → ℕ × NodeEvent
packet_at p k = (k, event.Packet p)

packet_told : (w : World) (x : Leases) (book : Book) (number k : ℕ) (e : NodeEvent) → CellInvariant w x book →
    option_and_then (delivered w.hosts) (packet_numbered w number) ≡ Some (k, e) → EventTold w.hosts x k e
packet_told w x book zero k e good is = absurd (cc)
packet_told w x book (suc number) k e good is = by (slice_get w.packets number) refl is
  where
    at : (p : Packet) → slice_get w.packets number ≡ Some p → (o : Option ℕ) → place_of w.hosts p.to ≡ o →
        option_map (packet_at p) o ≡ Some (k, e) → EventTold w.hosts x k e
    at p get None to is = absurd (cc)
    at p get (Some j) to is =
        let pair : ◌≡◌ {A = ℕ × NodeEvent} (j, event.Packet p) (k, e) = cc in
        let place : j ≡ k = ap (λ (q : ℕ × NodeEvent). q.0) pair in
        let same : event.Packet p ≡ e = ap (λ (q : ℕ × NodeEvent). q.1) pair in
        subst (EventTold w.hosts x k) same
        (all_get w.hosts x w.packets number p good.told get, to ∙ ap (λ (n : ℕ). Some n) place)

    by : (o : Option Packet) → slice_get w.packets number ≡ o → option_and_then (delivered w.hosts) o ≡ Some (k, e) →
        EventTold w.hosts x k e
    by None get is = absurd (cc)
    by (Some p) get is = at p get (place_of w.hosts p.to) refl is

occasion_told : (w : World) (x : Leases) (book : Book) (trigger : Trigger) (k : ℕ) (e : NodeEvent) → CellInvariant w x book →
    occasion w trigger ≡ Some (k, e) → EventTold w.hosts x k e
occasion_told w x book (Delivery number) k e good is = packet_told w x book number k e good is
occasion_told w x book (Beacon_turn server) k e good is =
    let same : event.BeaconTurn ≡ e =
    (let pair : ◌≡◌ {A = ℕ × NodeEvent} (server, event.BeaconTurn) (k, e) = cc in ap (λ (q : ℕ × NodeEvent). q.1) pair) in
    subst (EventTold w.hosts x k) same tt
occasion_told w x book (Recover_turn server) k e good is =
    let same : event.RecoverTurn ≡ e =
    (let pair : ◌≡◌ {A = ℕ × NodeEvent} (server, event.RecoverTurn) (k, e) = cc in ap (λ (q : ℕ × NodeEvent). q.1) pair) in
    subst (EventTold w.hosts x k) same tt
occasion_told w x book (Asking server id call) k e good is =
    let same : event.Ask id call ≡ e =
    (let pair : ◌≡◌ {A = ℕ × NodeEvent} (server, event.Ask id call) (k, e) = cc in ap (λ (q : ℕ × NodeEvent). q.1) pair) in
    subst (EventTold w.hosts x k) same tt

-- the servers with later clocks, and nothing else
abbrev pub LaterSites : List Site → List Site → Type 0
LaterSites sites after =
    (j : ℕ) (z : Site) → slice_get after j ≡ Some z →
    (y : Site) × (slice_get sites j ≡ Some y) × (y.clock ≤ z.clock) × (z.durable ≡ y.durable) × (z.node ≡ y.node)

later_ticked : (sites : List Site) (j : ℕ) (y z : Site) (seconds : ℕ) → slice_get sites j ≡ Some y → ticked seconds y ≡ z →
    (y : Site) × (slice_get sites j ≡ Some y) × (y.clock ≤ z.clock) × (z.durable ≡ y.durable) × (z.node ≡ y.node)
later_ticked sites j y z seconds get same =
    let clock : y.clock + seconds ≡ z.clock = ap (λ (s : Site). s.clock) same in
    (y, get, omega arith, ap (λ (s : Site). s.durable) (sym same), ap (λ (s : Site). s.node) (sym same))

and_last : (a b c : Bool) → (a && b && c) ≡ true → c ≡ true
and_last true true c is = is
and_last true false c is = absurd (cc)
and_last false b c is = absurd (cc)

module _ (safe : AreSafe cell_rules) (w : World) (x : Leases) (book : Book) (good : CellInvariant w x book) where
  at_server_good : (k : ℕ) (f : Site → SiteHappened) → ((site : Site) → Here w.hosts x k site → Moved w.hosts x k site (f site)) →
      Result (happens_at w k f (site_of w k)).world x (entered book (happens_at w k f (site_of w k)).entries)
  at_server_good k f moves = by (site_of w k) refl
    where
      by : (o : Option Site) → site_of w k ≡ o → Result (happens_at w k f o).world x (entered book (happens_at w k f o).entries)
      by None is = inl good
      by (Some site) is = moved_good safe w x book good k site is (f site) (moves site (here_of w x book k site good is))

  trigger_good : (trigger : Trigger) (f : Member → NodeEvent → Site → SiteHappened) →
      ((k : ℕ) (e : NodeEvent) (site : Site) → EventTold w.hosts x k e → Here w.hosts x k site →
      Moved w.hosts x k site (f (member w k) e site)) →
      Result (triggered w f (occasion w trigger)).world x (entered book (triggered w f (occasion w trigger)).entries)
  trigger_good trigger f moves = by (occasion w trigger) refl
    where
      by : (o : Option (ℕ × NodeEvent)) → occasion w trigger ≡ o → Result (triggered w f o).world x (entered book (triggered w f o).entries)
      by None is = inl good
      by (Some o) is =
          at_server_good o.0 (f (member w o.0) o.1) (λ site here. moves o.0 o.1 site (occasion_told w x book trigger o.0 o.1 good is) here)

  -- ---- ticks

  ticked_good : (sites : List Site) (y : Leases) → Invariant cell_rules y → Grew x y → y.servers ≡ map view sites →
      length sites ≡ length w.sites → LaterSites w.sites sites → CellInvariant (record w { sites = sites }) y book
  ticked_good sites y kept grew servers same later = record {
    servers = servers;
    told = all_more w.hosts x y w.packets grew good.told;
    own = good.own;
    size = same ∙ good.size;
    moments = λ j z is.
        let old = later j z is in
        let moment : 0 < old.0.clock = good.moments j old.0 old.1 in
        let more : old.0.clock ≤ z.clock = old.2 in
        omega arith;
    holds = λ j z is.
        let old = later j z is in
        subst (λ (d : Durable). NodeHolds y j d z.node) (sym old.3)
        (subst (NodeHolds y j old.0.durable) (sym old.4) (holds_more x y j old.0.durable old.0.node grew (good.holds j old.0 old.1)));
    kept = kept;
    versions = versions_map (VersionHolds w.sites x) (VersionHolds sites y) book
        (λ p is. (
          given_more x y p.maker p.version.epoch grew is.0,
          λ z get.
              let old = later p.maker z get in subst (λ (d : Durable). p.version.epoch ≤ d.version.epoch) (sym old.3) (is.1 old.0 old.1),
        )) good.versions;
    rises = good.rises;
  }

-- the same server at a later clock
pub ticked_one : (sites : List Site) (k seconds : ℕ) → LaterSites sites (tick_at sites k seconds)
ticked_one [] k seconds j z is = absurd (cc)
ticked_one (y ∷ sites) zero seconds zero z is = later_ticked (y ∷ sites) 0 y z seconds refl (cc)
ticked_one (y ∷ sites) zero seconds (suc j) z is = (z, is, omega arith, refl, refl)
ticked_one (y ∷ sites) (suc k) seconds zero z is = let same : y ≡ z = cc in (z, ap (λ (s : Site). Some s) same, omega arith, refl, refl)
ticked_one (y ∷ sites) (suc k) seconds (suc j) z is = ticked_one sites k seconds j z is

pub ticked_each : (sites : List Site) (seconds : ℕ) → LaterSites sites (map (ticked seconds) sites)
ticked_each [] seconds j z is = absurd (cc)
ticked_each (y ∷ sites) seconds zero z is = later_ticked (y ∷ sites) 0 y z seconds refl (cc)
ticked_each (y ∷ sites) seconds (suc j) z is = ticked_each sites seconds j z is

tick_length : (sites : List Site) (k seconds : ℕ) → length (tick_at sites k seconds) ≡ length sites
tick_length [] k seconds = refl
tick_length (y ∷ sites) zero seconds = refl
tick_length (y ∷ sites) (suc k) seconds = ap suc (tick_length sites k seconds)

tick_view : (sites : List Site) (k seconds : ℕ) →
    runs.at_server (map view sites) k (runs.ticked seconds) ≡ map view (tick_at sites k seconds)
tick_view [] k seconds = refl
tick_view (y ∷ sites) zero seconds = refl
tick_view (y ∷ sites) (suc k) seconds = ap (λ (xs : List leases.Server). view y ∷ xs) (tick_view sites k seconds)

ticks_view : (sites : List Site) (seconds : ℕ) → map (runs.ticked seconds) (map view sites) ≡ map view (map (ticked seconds) sites)
ticks_view [] seconds = refl
ticks_view (y ∷ sites) seconds = ap (λ (xs : List leases.Server). view (ticked seconds y) ∷ xs) (ticks_view sites seconds)

clocks_view : (sites : List Site) → runs.clocks_of (map view sites) ≡ clocks_of sites
clocks_view [] = refl
clocks_view (y ∷ sites) = ap (λ (clocks : List ℕ). y.clock ∷ clocks) (clocks_view sites)

-- ---- each event

module _ (safe : AreSafe cell_rules) (db : Database) (w : World) (x : Leases) (book : Book) (good : CellInvariant w x book) where
  -- a tick of the world is one of the model
  tick_good : (e : runs.Event) (servers : List leases.Server) (sites : List Site) →
      runs.after cell_rules x e ≡ record x { servers = servers } →
      (runs.are_near SKEW (runs.clocks_of servers) ≡ true → runs.IsEvent cell_rules x e) → servers ≡ map view sites →
      length sites ≡ length w.sites → LaterSites w.sites sites → may_tick sites ≡ true → Result (record w { sites = sites }) x book
  tick_good e servers sites is_after event_of same sized later may = inr (e, may_happen, next)
    where
      near : runs.are_near SKEW (runs.clocks_of servers) ≡ true
      near =
          ap (λ (xs : List leases.Server). runs.are_near SKEW (runs.clocks_of xs)) same
          ∙ ap (runs.are_near SKEW) (clocks_view sites) ∙ (and_both (are_near (clocks_of sites)) _ may).0

      may_happen : runs.IsEvent cell_rules x e
      may_happen = event_of near

      next : CellInvariant (record w { sites = sites }) (runs.after cell_rules x e) book
      next =
          subst (λ (y : Leases). CellInvariant (record w { sites = sites }) y book) (sym is_after)
          (ticked_good safe w x book good sites (record x { servers = servers })
          (subst (Invariant cell_rules) is_after (step_keeps cell_rules x e safe.binds may_happen good.kept))
          (record {
            beacons = λ b is. is;
            yeses = λ one is. is;
            same = ap length same ∙ length-map sites view ∙ sized
                ∙ sym (ap length good.servers ∙ length-map w.sites view);
          })
          same sized later)

  pub happens_good : (e : Event) → is_event w e ≡ true → Result (happens db w e).world x (entered book (happens db w e).entries)
  happens_good (Tick server seconds) is =
      tick_good (runs.Tick server seconds) (runs.at_server x.servers server (runs.ticked seconds)) (tick_at w.sites server seconds) refl
      (λ near. near)
      (ap (λ (xs : List leases.Server). runs.at_server xs server (runs.ticked seconds)) good.servers ∙ tick_view w.sites server seconds)
      (tick_length w.sites server seconds) (ticked_one w.sites server seconds)
      (and_last (nat_lt 0 seconds) _ _ is)
  happens_good (Tick_all seconds) is =
      tick_good (runs.Tick_all seconds) (map (runs.ticked seconds) x.servers) (map (ticked seconds) w.sites) refl (λ near. near)
      (ap (map (runs.ticked seconds)) good.servers ∙ ticks_view w.sites seconds)
      (length-map w.sites (ticked seconds)) (ticked_each w.sites seconds) (and_both (nat_lt 0 seconds) _ is).1
  happens_good (Step trigger short) is =
      trigger_good safe w x book good trigger (λ m e site. step_at db m trigger e short site site.node)
      (λ k e site told here. step_moves db w.hosts x k site here trigger e short told)
  happens_good (Stop trigger short made) is =
      trigger_good safe w x book good trigger (λ m e site. stop_at db m e short made site site.node)
      (λ k e site told here. stop_moves_at db w.hosts x k site here e short made told)
  happens_good (Fault trigger short made) is =
      trigger_good safe w x book good trigger (λ m e site. fault_at db m e short made site site.node)
      (λ k e site told here. fault_moves_at db w.hosts x k site here e short made told)
  happens_good (Crash server) is =
      at_server_good safe w x book good server crash_at (λ site here. crash_moves db w.hosts x server site here)
  happens_good (Restart server failed) is =
      at_server_good safe w x book good server (restart_at (length w.hosts) server failed)
      (λ site here. restart_moves db w.hosts x server site here failed)
