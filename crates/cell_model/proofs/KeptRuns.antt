-- What is kept along each run of a cell of one server.
use Rattle.std.proofs.Common.{Bool, true, false, true≢false, ◌≡◌, inl, inr, ℕ, zero, suc, List, [], ◌∷◌, ◌++◌, get_or, take, refl, sym, ap, subst, ◌∙◌, append_assoc}
use Rattle.std.proofs.lemmas.List.{append-nil}
use Rattle.std.proofs.lemmas.List.Elements.{All-nil, All-append, All-weaker, All-contains, Contains-get_or, Contains-append_right}
use Rattle.std.specs.Prelude.{slice_get, All, Contains}
use Rattle.std.specs.Prelude.{Some}
use Rattle.ubik_types.specs.declared.hosts.Host.{Host}
use Rattle.ubik_calls.specs.declared.packets.Packet.{Packet}
use Rattle.db_image.specs.Database.{Database}
use Rattle.cell_model.specs.declared.events.NodeEvent.{NodeEvent}
use Rattle.cell_model.specs.declared.events.NodeEvent.TheVariants as event
use Rattle.cell_model.specs.Book.{Book, Announcement, Acknowledgement, Run, entered, announced, acknowledged, order_of, first_run, run_after, run_through}
use Rattle.cell_model.specs.Durable.{Durable, Transaction, durable_after_all}
use Rattle.cell_model.specs.KeptLaws.{IsPlaced, AcknowledgedStay}
use Rattle.cell_model.specs.Laws.{Begins, run_of_one, AnnouncementsGrow}
use Rattle.cell_model.specs.Node.{Node, Down, Halted, Up, Server}
use Rattle.cell_model.specs.NodeRule.{step_of, refusals}
use Rattle.cell_model.specs.Step.{Member, Stepped}
use Rattle.cell_model.specs.World.{nothing, triggered, occasion, Site, World, Trigger, Delivery, Beacon_turn, Recover_turn, Asking, Event, Tick, Tick_all, Step, Stop, Fault, Crash, Restart, Happened, SiteHappened, packets_of, seen_from, lost_at, halted_step, step_at, step_up, stop_at, fault_at, crash_at, restart_at, only_marks, happened_at, ticked, happens, first_world}
use Rattle.cell_model.proofs.Kept.{Stands, StandsUp, StandsNode, KnowsUp, Leaves, AllSilent, silent_leaves, silent_append, all_begin_more, slice_get-front, site_up, rests_leaves, relabels_leaves, commits_leaves}
use Rattle.cell_model.proofs.BookVersions.{IsListed, book_after, broken_goes}
use Rattle.cell_model.proofs.StepKinds.{one_of, IsAlone, IsOwn, IsStep, step_is}

-- ---- one site

refusals_silent : (e : NodeEvent) → AllSilent (seen_from 0 1 (refusals e))
refusals_silent (event.Packet p) = tt
refusals_silent event.BeaconTurn = tt
refusals_silent event.RecoverTurn = tt
refusals_silent (event.Ask id call) = ((λ book. refl), tt)

refusals_packets : (e : NodeEvent) → packets_of (refusals e) ≡ []
refusals_packets (event.Packet p) = refl
refusals_packets event.BeaconTurn = refl
refusals_packets event.RecoverTurn = refl
refusals_packets (event.Ask id call) = refl

lost_silent : (trigger : Trigger) → AllSilent (lost_at trigger)
lost_silent (Delivery number) = (tt, tt)
lost_silent (Beacon_turn server) = tt
lost_silent (Recover_turn server) = tt
lost_silent (Asking server id call) = tt

-- what is known of a server that is up
pub knows : (db : Database) (book : Book) (ann : List Announcement) (site : Site) (s : Server) (stands : Stands db book ann site) → StandsUp ann stands.list site.durable s → KnowsUp db book ann s stands.list
knows db book ann site s stands up =
    let P : Durable → Type 0 = λ d. IsListed db book d stands.list in
    record { is = subst P up.durable_is stands.is; begins = stands.begins; grows = stands.grows; ready = up.ready }

step_leaves : (db : Database) (host : Host) (book : Book) (ann : List Announcement) (site : Site) (e : NodeEvent) (short : List Bool) (s : Server) (list : List Transaction) → IsOwn e → IsAlone s → KnowsUp db book ann s list → Leaves db book ann (step_up 0 (site_up site s) e s.version (step_of db (one_of host) s site.clock e short))
step_leaves db host book ann site e short s list own alone up = by (step_of db (one_of host) s site.clock e short) (step_is db host s site.clock e short own alone)
  where
    by : (t : Stepped) → IsStep db s site.clock e t → Leaves db book ann (step_up 0 (site_up site s) e s.version t)
    by t (inl rests) = rests_leaves db book ann site s site.clock e t list up rests
    by t (inr (inl made)) = relabels_leaves db book ann site s e t list up made
    by t (inr (inr made)) = commits_leaves db book ann site s site.clock e t list up made

-- a step of the one server
one_step : (db : Database) (host : Host) (book : Book) (ann : List Announcement) (site : Site) (trigger : Trigger) (e : NodeEvent) (short : List Bool) (node : Node) → IsOwn e → site.node ≡ node → Stands db book ann site → Leaves db book ann (step_at db (one_of host) trigger e short site node)
one_step db host book ann site trigger e short Down own is stands =
    silent_leaves db book ann (only_marks site (lost_at trigger)) refl (lost_silent trigger) stands
one_step db host book ann site trigger e short (Halted h) own is stands =
    silent_leaves db book ann (halted_step site e) (refusals_packets e) (silent_append (seen_from 0 1 (refusals e)) [] (refusals_silent e) tt)
    (record { list = stands.list; is = stands.is; begins = stands.begins; grows = stands.grows; node = stands.node })
one_step db host book ann site trigger e short (Up s) own is stands =
    let P : Node → Type 0 = λ n. StandsNode ann stands.list site.durable n in
    let up : StandsUp ann stands.list site.durable s = subst P is stands.node in
    let Q : Durable → Type 0 = λ d. Leaves db book ann (step_up 0 (record site { durable = d }) e s.version (step_of db (one_of host) s site.clock e short)) in
    subst Q (sym up.durable_is) (step_leaves db host book ann site e short s stands.list own up.alone (knows db book ann site s stands up))

-- where the step is broken off, what was made durable stays
broken_stands : (db : Database) (host : Host) (book : Book) (ann : List Announcement) (site : Site) (e : NodeEvent) (short : List Bool) (made : ℕ) (s : Server) (ids : List ℕ) (node : Node) → ((list : List Transaction) (d : Durable) → StandsNode ann list d node) → IsOwn e → site.node ≡ Up s → Stands db book ann site
    → let calls = take made (step_of db (one_of host) s site.clock e short).calls in
    Stands db (book_after book s.version calls) ann (record { clock = site.clock; durable = durable_after_all site.durable calls; node = node; asked = ids })
broken_stands db host book ann site e short made s ids node any own is stands =
    let P : Node → Type 0 = λ n. StandsNode ann stands.list site.durable n in
    let up : StandsUp ann stands.list site.durable s = subst P is stands.node in
    let t = step_of db (one_of host) s site.clock e short in
    let goes = broken_goes db book s site.clock e stands.list t made (knows db book ann site s stands up).is (step_is db host s site.clock e short own up.alone) in
    let Q : Durable → Type 0 = λ d. Stands db (book_after book s.version (take made t.calls)) ann (record { clock = site.clock; durable = durable_after_all d (take made t.calls); node = node; asked = ids }) in
    subst Q (sym up.durable_is) (record {
      list = stands.list ++ goes.0;
      is = goes.1;
      begins = all_begin_more ann stands.list goes.0 stands.begins;
      grows = stands.grows;
      node = any _ _;
    })

one_stop : (db : Database) (host : Host) (book : Book) (ann : List Announcement) (site : Site) (e : NodeEvent) (short : List Bool) (made : ℕ) (node : Node) → IsOwn e → site.node ≡ node → Stands db book ann site → Leaves db book ann (stop_at db (one_of host) e short made site node)
one_stop db host book ann site e short made Down own is stands = silent_leaves db book ann (only_marks site []) refl tt stands
one_stop db host book ann site e short made (Halted h) own is stands =
    silent_leaves db book ann (stop_at db (one_of host) e short made site (Halted h)) refl (tt, tt)
    (record { list = stands.list; is = stands.is; begins = stands.begins; grows = stands.grows; node = tt })
one_stop db host book ann site e short made (Up s) own is stands =
    silent_leaves db book ann (stop_at db (one_of host) e short made site (Up s)) refl (tt, tt)
    (broken_stands db host book ann site e short made s site.asked Down (λ list d. tt) own is stands)

one_fault : (db : Database) (host : Host) (book : Book) (ann : List Announcement) (site : Site) (e : NodeEvent) (short : List Bool) (made : ℕ) (node : Node) → IsOwn e → site.node ≡ node → Stands db book ann site → Leaves db book ann (fault_at db (one_of host) e short made site node)
one_fault db host book ann site e short made Down own is stands = silent_leaves db book ann (only_marks site []) refl tt stands
one_fault db host book ann site e short made (Halted h) own is stands = silent_leaves db book ann (only_marks site []) refl tt stands
one_fault db host book ann site e short made (Up s) own is stands =
    silent_leaves db book ann (fault_at db (one_of host) e short made site (Up s)) (refusals_packets e) (silent_append (seen_from 0 1 (refusals e)) _ (refusals_silent e) (tt, tt))
    (broken_stands db host book ann site e short made s _ _ (λ list d. tt) own is stands)

one_crash : (db : Database) (book : Book) (ann : List Announcement) (site : Site) → Stands db book ann site → Leaves db book ann (crash_at site)
one_crash db book ann site stands =
    silent_leaves db book ann (crash_at site) refl tt (record { list = stands.list; is = stands.is; begins = stands.begins; grows = stands.grows; node = tt })

one_restart : (db : Database) (book : Book) (ann : List Announcement) (site : Site) (failed : Bool) → Stands db book ann site → Leaves db book ann (restart_at 1 0 failed site)
one_restart db book ann site true stands = silent_leaves db book ann (restart_at 1 0 true site) refl (tt, tt) stands
one_restart db book ann site false stands = silent_leaves db book ann (restart_at 1 0 false site) refl (tt, tt) (record {
  list = stands.list;
  is = stands.is;
  begins = stands.begins;
  grows = stands.grows;
  node = record {
    durable_is = refl;
    alone = record { flight = refl; waiting = refl; beacon = refl; phase = tt };
    ready = λ is. absurd (true≢false (sym is));
  };
})

-- ---- the world

-- a cell of one server, where no packet was ever sent
abbrev pub world_of : Host → Site → World
world_of host site = record { hosts = host ∷ []; sites = site ∷ []; packets = [] }

-- What holds where nothing happens, and where a step is brought about at the one server, holds whatever the trigger: no packet
-- was sent, so none comes.
pub by_trigger : (host : Host) (site : Site) (P : Happened → Type 0) (f : Member → NodeEvent → Site → SiteHappened) (trigger : Trigger) → P (nothing (world_of host site)) → ((e : NodeEvent) → IsOwn e → occasion (world_of host site) trigger ≡ Some (0, e) → P (happened_at (world_of host site) 0 (f (one_of host) e site))) → P (triggered (world_of host site) f (occasion (world_of host site) trigger))
by_trigger host site P f (Delivery zero) none at = none
by_trigger host site P f (Delivery (suc number)) none at = none
by_trigger host site P f (Beacon_turn zero) none at = at event.BeaconTurn tt refl
by_trigger host site P f (Beacon_turn (suc k)) none at = none
by_trigger host site P f (Recover_turn zero) none at = at event.RecoverTurn tt refl
by_trigger host site P f (Recover_turn (suc k)) none at = none
by_trigger host site P f (Asking zero id call) none at = at (event.Ask id call) tt refl
by_trigger host site P f (Asking (suc k) id call) none at = none

-- what an event leaves of the world
pub record LeavesWorld (db : Database) (host : Host) (book : Book) (ann : List Announcement) (h : Happened) : Type 0 where
  pub site : Site
  pub world : h.world ≡ world_of host site
  pub stands : Stands db (entered book h.entries) (announced (entered book h.entries) h.seen ann) site
  pub moves : Begins (order_of ann) (order_of (announced (entered book h.entries) h.seen ann))
  pub newer : List Acknowledgement
  pub acknowledges : (before : List Acknowledgement) → acknowledged (entered book h.entries) h.seen before ≡ newer ++ before
  pub placed : All (IsPlaced (order_of (announced (entered book h.entries) h.seen ann))) newer

-- where nothing is seen or made durable
still : (db : Database) (host : Host) (book : Book) (ann : List Announcement) (site : Site) (w : World) → w ≡ world_of host site → Stands db book ann site → LeavesWorld db host book ann (record { world = w; seen = []; entries = [] })
still db host book ann site w is stands = record {
  site = site;
  world = is;
  stands = stands;
  moves = ([], sym (append-nil _));
  newer = [];
  acknowledges = λ before. refl;
  placed = All-nil (IsPlaced (order_of ann));
}

at_site : (db : Database) (host : Host) (book : Book) (ann : List Announcement) (site : Site) (h : SiteHappened) → Leaves db book ann h → LeavesWorld db host book ann (happened_at (world_of host site) 0 h)
at_site db host book ann site h leaves = record {
  site = h.site;
  world = ap (λ (packets : List Packet). record { hosts = host ∷ []; sites = h.site ∷ []; packets = packets }) leaves.packets;
  stands = leaves.stands;
  moves = leaves.moves;
  newer = leaves.newer;
  acknowledges = leaves.acknowledges;
  placed = leaves.placed;
}

-- a tick of the clock
ticked_stands : (db : Database) (book : Book) (ann : List Announcement) (site : Site) (seconds : ℕ) → Stands db book ann site → Stands db book ann (ticked seconds site)
ticked_stands db book ann site seconds stands =
    record { list = stands.list; is = stands.is; begins = stands.begins; grows = stands.grows; node = stands.node }

module _ (db : Database) (host : Host) (book : Book) (ann : List Announcement) (site : Site) (stands : Stands db book ann site) where
  abbrev w : World
  w = world_of host site

  nothing_is : LeavesWorld db host book ann (record { world = w; seen = []; entries = [] })
  nothing_is = still db host book ann site w refl stands

  happened : (e : Event) → LeavesWorld db host book ann (happens db w e)
  happened (Tick zero seconds) = still db host book ann (ticked seconds site) _ refl (ticked_stands db book ann site seconds stands)
  happened (Tick (suc k) seconds) = nothing_is
  happened (Tick_all seconds) = still db host book ann (ticked seconds site) _ refl (ticked_stands db book ann site seconds stands)
  happened (Step trigger short) =
      by_trigger host site (LeavesWorld db host book ann) (λ m e site. step_at db m trigger e short site site.node) trigger nothing_is
      (λ e own _. at_site db host book ann site _ (one_step db host book ann site trigger e short site.node own refl stands))
  happened (Stop trigger short made) =
      by_trigger host site (LeavesWorld db host book ann) (λ m e site. stop_at db m e short made site site.node) trigger nothing_is
      (λ e own _. at_site db host book ann site _ (one_stop db host book ann site e short made site.node own refl stands))
  happened (Fault trigger short made) =
      by_trigger host site (LeavesWorld db host book ann) (λ m e site. fault_at db m e short made site site.node) trigger nothing_is
      (λ e own _. at_site db host book ann site _ (one_fault db host book ann site e short made site.node own refl stands))
  happened (Crash zero) = at_site db host book ann site (crash_at site) (one_crash db book ann site stands)
  happened (Crash (suc k)) = nothing_is
  happened (Restart zero failed) = at_site db host book ann site (restart_at 1 0 failed site) (one_restart db book ann site failed stands)
  happened (Restart (suc k) failed) = nothing_is

-- ---- runs

-- the one server stands, and what is acknowledged is in the order
pub record IsKept (db : Database) (host : Host) (r : Run) : Type 0 where
  pub site : Site
  pub world : r.world ≡ world_of host site
  pub stands : Stands db r.book r.announcements site
  pub placed : All (IsPlaced (order_of r.announcements)) r.acknowledged

-- a place in a list is one in each list that it begins
at_begins : (front whole : List Transaction) (a : Acknowledgement) → Begins front whole → IsPlaced front a → IsPlaced whole a
at_begins front whole a begins at = ap (λ (l : List Transaction). slice_get l a.place) begins.1 ∙ slice_get-front front begins.0 a.place a.transaction at

-- what an event leaves of a run
pub event_leaves : (db : Database) (host : Host) (r : Run) (e : Event) → IsKept db host r → LeavesWorld db host r.book r.announcements (happens db r.world e)
event_leaves db host r e kept =
    let P : World → Type 0 = λ w. LeavesWorld db host r.book r.announcements (happens db w e) in
    subst P (sym kept.world) (happened db host r.book r.announcements kept.site kept.stands e)

pub goes_on : (db : Database) (host : Host) (r : Run) (e : Event) → IsKept db host r → IsKept db host (run_after db r e)
goes_on db host r e kept =
    let leaves = event_leaves db host r e kept in
    let order = order_of (run_after db r e).announcements in
    let P : List Acknowledgement → Type 0 = λ l. All (IsPlaced order) l in
    record {
      site = leaves.site;
      world = leaves.world;
      stands = leaves.stands;
      placed = subst P (sym (leaves.acknowledges r.acknowledged)) (All-append (IsPlaced order) leaves.newer r.acknowledged leaves.placed
          (All-weaker (IsPlaced (order_of r.announcements)) (IsPlaced order) (λ a at. at_begins (order_of r.announcements) order a leaves.moves at) r.acknowledged kept.placed));
    }

along : (db : Database) (host : Host) (r : Run) (events : List Event) → IsKept db host r → IsKept db host (run_through db r events)
along db host r [] kept = kept
along db host r (e ∷ events) kept = along db host (run_after db r e) events (goes_on db host r e kept)

pub first_kept : (db : Database) (host : Host) (clock : ℕ) (failed : Bool) → IsKept db host (first_run (first_world (host ∷ []) clock (failed ∷ [])))
first_kept db host clock true = record {
  site = _;
  world = refl;
  stands = record { list = []; is = record { listed = refl; image_is = refl }; begins = tt; grows = tt; node = tt };
  placed = All-nil (IsPlaced []);
}
first_kept db host clock false = record {
  site = _;
  world = refl;
  stands = record {
    list = [];
    is = record { listed = refl; image_is = refl };
    begins = tt;
    grows = tt;
    node = record {
      durable_is = refl;
      alone = record { flight = refl; waiting = refl; beacon = refl; phase = tt };
      ready = λ is. refl;
    };
  };
  placed = All-nil (IsPlaced []);
}

pub run_kept : (db : Database) (host : Host) (clock : ℕ) (failed : Bool) (events : List Event) → IsKept db host (run_of_one db host clock failed events)
run_kept db host clock failed events = along db host (first_run (first_world (host ∷ []) clock (failed ∷ []))) events (first_kept db host clock failed)

pub announcements_grow : AnnouncementsGrow
announcements_grow db host clock failed events = (run_kept db host clock failed events).stands.grows

-- what was acknowledged stays so
later_ends : (db : Database) (host : Host) (r : Run) (events : List Event) → IsKept db host r → (newer : List Acknowledgement) × ((run_through db r events).acknowledged ≡ newer ++ r.acknowledged)
later_ends db host r [] kept = ([], refl)
later_ends db host r (e ∷ events) kept =
    let leaves = event_leaves db host r e kept in
    let ends = later_ends db host (run_after db r e) events (goes_on db host r e kept) in
    (ends.0 ++ leaves.newer, ends.1 ∙ ap (λ (l : List Acknowledgement). ends.0 ++ l) (leaves.acknowledges r.acknowledged) ∙ sym (append_assoc ends.0 leaves.newer r.acknowledged))

all_of_end : (P : Acknowledgement → Type 0) (whole front part : List Acknowledgement) → whole ≡ front ++ part → All P whole → All (λ a. Contains whole a × P a) part
all_of_end P whole front part is all k d inside =
    let a = get_or part k d in
    let C : List Acknowledgement → Type 0 = λ l. Contains l a in
    let contains : Contains whole a = subst C (sym is) (Contains-append_right front part a (Contains-get_or part k d inside)) in
    (contains, All-contains P whole a all contains)

pub acknowledged_stay : AcknowledgedStay
acknowledged_stay db host clock failed events more =
    let r = run_of_one db host clock failed events in
    let later = run_through db r more in
    let kept = run_kept db host clock failed events in
    let ends = later_ends db host r more kept in
    all_of_end (IsPlaced (order_of later.announcements)) later.acknowledged ends.0 r.acknowledged ends.1 (along db host r more kept).placed
