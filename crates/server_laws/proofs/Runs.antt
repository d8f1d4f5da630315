-- Each fitting schedule is a run, and leaves servers that are replays: one induction, a case for each kind of entry.
use Rattle.std.proofs.Common.{Bool, true, false, cond, ◌==◌, ◌≡◌, ℕ, zero, suc, List, [], ◌∷◌, ◌++◌, length, map, slice_get, refl, sym, ap, subst, ◌∙◌, arith}
use Rattle.std.proofs.lemmas.Bool.{cond_both}
use Rattle.std.proofs.lemmas.Bool.Decides.{nat_tests}
use Rattle.std.specs.Prelude.{Option, Some, is_some}
use Rattle.ubik_types.specs.declared.hosts.Host.{Host}
use Rattle.db_image.specs.Database.{Database}
use Rattle.db_image.specs.Standing.{Standing}
use Rattle.cell_model.specs.declared.events.NodeEvent.{NodeEvent}
use Rattle.cell_model.specs.Durable.{Durable, no_database}
use Rattle.cell_model.specs.Evaluating.{MayAllCome}
use Rattle.cell_model.specs.Node.{Node, Up, Server, opened_server}
use Rattle.cell_model.specs.NodeRule.{step_of}
use Rattle.cell_model.specs.Step.{Member}
use Rattle.cell_model.specs.World.{World, Site, Trigger, Event, Crash, Restart, Happened, Happening, happened_at, happens_at, crash_at, restart_at, stop_at, happens}
use Rattle.cell_model.specs.World.{asked_after, holds_at, is_down, is_new_ask, member, site_of, occasion, seen_of, ticked, tick_at, world_after, first_site, first_world, IsEvent, IsRun}
use Rattle.journal_model.specs.Asking.{asked_in}
use Rattle.journal_model.specs.Items.{JournalItem, choices_of}
use Rattle.journal_model.specs.Replay.{Replayed, item_replayed, replayed, step_in}
use Rattle.journal_model.proofs.Asking.{once_front, once_last, once_more}
use Rattle.journal_model.proofs.Replaying.{items_front, items_last, items_more}
use Rattle.journal_model.specs.Schedules.{ScheduleEntry, Tick, Tick_all, Open, Item, Stop, Progress, AllAllowed, EntryFits, Fits, HasJournal, IsAllowed, IsOwn}
use Rattle.journal_model.specs.Schedules.{IsOwnItem, IsReplay, ItemFits, Life, OpeningFits, StepFits}
use Rattle.journal_model.specs.Schedules.{all_events, asked_at, ends_life, entered, events_of, item_event, life_after, life_from, life_in, life_with, node_in, scheduled}
use Rattle.cell_places.proofs.Hosts.{all_hosts_stay}
use Rattle.server_laws.specs.Laws.{AllMeant, IsWorldRun}
use Rattle.server_laws.proofs.Events.{Comes, IsBrought, item_comes, stop_event, stop_is, stopped}
use Rattle.server_laws.proofs.Lives.{AllLives, IsLife, at_down, at_one, here, item_goes, replay_is}
use Rattle.server_laws.proofs.Sites.{SameNodes, set_same, some_site, ticked_each, ticked_one}

-- ---- runs

pub run-append : (db : Database) (w : World) (front back : List Event) → IsRun db w front → IsRun db (world_after db w front) back
    → IsRun db w (front ++ back)
run-append db w [] back first second = second
run-append db w (e ∷ front) back first second = (first.0, run-append db (happens db w e).world front back first.1 second)

pub world-append : (db : Database) (w : World) (front back : List Event)
    → world_after db w (front ++ back) ≡ world_after db (world_after db w front) back
world-append db w [] back = refl
world-append db w (e ∷ front) back = world-append db (happens db w e).world front back

-- ---- an opening

module _ (db : Database) (w : World) (k : ℕ) (site : Site) (there : site_of w k ≡ Some site) where
  abbrev crashed : World
  crashed = (happened_at w k (crash_at site)).world

  crash_is : happens db w (Crash k) ≡ happened_at w k (crash_at site)
  crash_is = ap (happens_at w k crash_at) there

  down_there : site_of crashed k ≡ Some (crash_at site).site
  down_there = set_same w.sites k site (crash_at site).site there

  opening_run : IsRun db w (Crash k ∷ Restart k false ∷ [])
  opening_run = (
    ap is_some there,
    (
      subst (λ (h : Happened). IsEvent h.world (Restart k false)) (sym crash_is)
          (ap (holds_at (λ (site : Site). is_down site.node)) down_there),
      tt,
    ),
  )

  opening_is : world_after db w (Crash k ∷ Restart k false ∷ [])
      ≡ (happened_at crashed k (restart_at (length w.hosts) k false (crash_at site).site)).world
  opening_is =
      ap (λ (h : Happened). (happens db h.world (Restart k false)).world) crash_is
      ∙ ap (λ (o : Option Site). (happens_at crashed k (restart_at (length w.hosts) k false) o).world) down_there

-- ---- an entry

-- what an entry that fits comes to
pub record Goes (db : Database) (w : World) (entry : ScheduleEntry) : Type 0 where
  pub run : IsRun db w (events_of w entry)
  pub replays : (lives : ℕ → Life) → AllLives db w lives
      → AllLives db (entered db w entry) (λ k. life_after (length w.hosts) k (lives k) entry (seen_of db w (events_of w entry)))

tick_goes : (db : Database) (w : World) (sites : List Site) (lives : ℕ → Life) → SameNodes w.sites sites → AllLives db w lives
    → AllLives db (record w { sites = sites }) lives
tick_goes db w sites lives same all k z there =
    let old = same k z there in
    let was = all k old.0 old.1 in
    record {
      replay = subst (IsReplay db (member w k) (lives k)) (sym old.2) was.replay;
      asked = λ up. old.3 ∙ was.asked (ap is_down (sym old.2) ∙ up);
    }

open_goes : (db : Database) (w : World) (k now : ℕ) (found : Durable) (site : Site) → site_of w k ≡ Some site → OpeningFits now found site
    → Goes db w (Open k now found)
open_goes db w k now found site there fits = record {
  run = opening_run db w k site there;
  replays = λ lives all.
      subst (λ (x : World). AllLives db x (λ j. cond (k == j) (life_from (length w.hosts) found now) (lives j)))
      (sym (opening_is db w k site there))
      (at_one db (crashed db w k site there) k (restart_at (length w.hosts) k false (crash_at site).site) lives (λ j. life_from (length w.hosts) found now)
      (at_down db w k (crash_at site) lives all refl) (record { replay = opened; asked = λ up. refl }));
}
  where
    opened : IsReplay db (member w k) (life_from (length w.hosts) found now) (Up (opened_server (length w.hosts) site.durable site.clock))
    opened =
        ap (λ (d : Durable). record { node = Up (opened_server (length w.hosts) d now); outputs = [] }) fits.disk
        ∙ ap (λ (moment : ℕ). record { node = Up (opened_server (length w.hosts) site.durable moment); outputs = [] }) fits.moment

-- where what may have come of the calls of a server is what the database has, each of its items that fit is a step of the world
told_as_had : (d : Standing) (w : World) (k : ℕ) (item : JournalItem) (site : Site) → AllMeant d w → site_of w k ≡ Some site
    → MayAllCome d item.evaluations → (s : Server) → site.node ≡ Up s
    → step_in d.database (member w k) s item ≡ step_of d.database (member w k) s item.now item.event (choices_of item)
told_as_had d w k item site meant there may s up =
    meant k site s there up item.evaluations may (member w k) item.now item.event (choices_of item)

-- what comes of an item that fits
pub item_fit_comes : (d : Standing) (w : World) (k : ℕ) (trigger : Trigger) (item : JournalItem) (progress : Progress) (site : Site) → AllMeant d w
    → site_of w k ≡ Some site → occasion w trigger ≡ Some (k, item.event) → ItemFits item site → (own : IsOwnItem d (member w k) (node_in (site_of w k)) (asked_at (site_of w k)) item)
    → Comes d.database w k (item_event (node_in (site_of w k)) trigger item progress)
    (item_replayed d.database (member w k) (node_in (site_of w k)) item) (asked_after site.asked item.event)
item_fit_comes d w k trigger item progress site meant there brought fits own =
    let new : is_new_ask site.asked item.event ≡ true = ap (λ (ids : List ℕ). is_new_ask ids item.event) (sym (ap asked_at there)) ∙ own.new in
    item_comes d.database w trigger k item progress site
    (record { brought = brought; there = there; fits = record { up = fits.up; new = new } }) fits.moment
    (told_as_had d w k item site meant there own.item_of.may) (node_in (site_of w k)) (sym (ap node_in there))

item_goes_on : (d : Standing) (w : World) (k : ℕ) (trigger : Trigger) (item : JournalItem) (progress : Progress) (site : Site) → AllMeant d w
    → site_of w k ≡ Some site → occasion w trigger ≡ Some (k, item.event) → ItemFits item site → (own : IsOwnItem d (member w k) (node_in (site_of w k)) (asked_at (site_of w k)) item)
    → Goes d.database w (Item k trigger item progress)
item_goes_on d w k trigger item progress site meant there brought fits own =
    by (node_in (site_of w k)) (sym (ap node_in there)) (item_fit_comes d w k trigger item progress site meant there brought fits own)
  where
    by : (node : Node) → site.node ≡ node
        → Comes d.database w k (item_event (node_in (site_of w k)) trigger item progress) (item_replayed d.database (member w k) node item)
        (asked_after site.asked item.event) → Goes d.database w (Item k trigger item progress)
    by node at c = record {
      run = (c.event_of, tt);
      replays = λ lives all.
          let seen = seen_of d.database w (events_of w (Item k trigger item progress)) in
          let was = all k site there in
          let kept : IsReplay d.database (member w k) (lives k) node = subst (IsReplay d.database (member w k) (lives k)) at was.replay in
          subst (λ (h : Happened). AllLives d.database h.world (λ j. cond (k == j) (life_with (lives j) item seen) (lives j))) (sym c.is)
          (at_one d.database w k c.happened lives (λ j. life_with (lives j) item seen) all
          (item_goes d.database w k node (lives k) item (item_event (node_in (site_of w k)) trigger item progress) site.asked c
          (ap is_down (sym at) ∙ fits.up) (was.asked fits.up) kept));
    }

stop_goes : (db : Database) (w : World) (k : ℕ) (trigger : Trigger) (progress : Progress) (event : NodeEvent) (site : Site)
    → site_of w k ≡ Some site → occasion w trigger ≡ Some (k, event) → StepFits event site → Goes db w (Stop k trigger progress)
stop_goes db w k trigger progress event site there brought fits =
    let is : IsBrought w trigger k event site = record { brought = brought; there = there; fits = fits } in
    record {
      run = (stop_event db w trigger k event site is progress.short progress.made, tt);
      replays = λ lives all.
          subst (λ (h : Happened). AllLives db h.world lives) (sym (stop_is db w trigger k event site is progress.short progress.made))
          (at_down db w k (stop_at db (member w k) event progress.short progress.made site site.node) lives all
          (stopped db w trigger k event site is progress.short progress.made site.node fits.up));
    }

pub goes : (d : Standing) (w : World) (entry : ScheduleEntry) → AllMeant d w → EntryFits d w entry → Goes d.database w entry
goes d w (Tick k seconds) meant fits = record {
  run = (fits.0, tt);
  replays = λ lives all. tick_goes d.database w (tick_at w.sites k seconds) lives (ticked_one w.sites k seconds) all;
}
goes d w (Tick_all seconds) meant fits = record {
  run = (fits.0, tt);
  replays = λ lives all. tick_goes d.database w (map (ticked seconds) w.sites) lives (ticked_each w.sites seconds) all;
}
goes d w (Open k now found) meant fits =
    let site = some_site (OpeningFits now found) (site_of w k) fits.0 in open_goes d.database w k now found site.0 site.1 site.2
goes d w (Item k trigger item progress) meant fits =
    let site = some_site (ItemFits item) (site_of w k) fits.0.1 in
    item_goes_on d w k trigger item progress site.0 meant site.1 fits.0.0 site.2 fits.1
goes d w (Stop k trigger progress) meant fits =
    let site = some_site (StepFits fits.0.0) (site_of w k) fits.0.2 in
    stop_goes d.database w k trigger progress fits.0.0 site.0 site.1 fits.0.1 site.2

-- the servers of the first world were just opened
pub first_replays : (db : Database) (n : ℕ) (m : Member) (clock : ℕ) (failed : List Bool) (k : ℕ) (site : Site)
    → slice_get (map (first_site n clock) failed) k ≡ Some site → IsLife db m (life_from n no_database clock) site
first_replays db n m clock [] k site is = absurd (cc)
first_replays db n m clock (one ∷ failed) zero site is =
    subst (IsLife db m (life_from n no_database clock)) (same is) (record { replay = by one; asked = λ up. refl })
  where
    same : Some (first_site n clock one) ≡ Some site → first_site n clock one ≡ site
    same is = cc

    by : (one : Bool) → IsReplay db m (life_from n no_database clock) (first_site n clock one).node
    by true = tt
    by false = refl
first_replays db n m clock (one ∷ failed) (suc k) site is = first_replays db n m clock failed k site is

-- ---- schedules

pub front_fits : (d : Standing) (w : World) (front rest : List ScheduleEntry) → Fits d w (front ++ rest) → Fits d w front
front_fits d w [] rest fits = tt
front_fits d w (entry ∷ front) rest fits = (fits.0, front_fits d (entered d.database w entry) front rest fits.1)

-- a run from a first world on, and the world that it leads to
pub record IsReached (db : Database) (start w : World) : Type 0 where
  pub events : List Event
  pub run : IsRun db start events
  pub is : w ≡ world_after db start events

pub reached_more : (db : Database) (start w : World) (events : List Event) → IsReached db start w → IsRun db w events
    → IsReached db start (world_after db w events)
reached_more db start w events reached run = record {
  events = reached.events ++ events;
  run = run-append db start reached.events events reached.run (subst (λ (x : World). IsRun db x events) reached.is run);
  is = ap (λ (x : World). world_after db x events) reached.is ∙ sym (world-append db start reached.events events);
}

module _ (d : Standing) (hosts : List Host) (clock : ℕ) (failed : List Bool)
    (meant : (events : List Event) → IsRun d.database (first_world hosts clock failed) events →
    AllMeant d (world_after d.database (first_world hosts clock failed) events)) where
  abbrev db : Database
  db = d.database

  abbrev start : World
  start = first_world hosts clock failed

  abbrev Reached : World → Type 0
  Reached w = IsReached db start w

  meant_at : (w : World) → Reached w → AllMeant d w
  meant_at w reached = subst (AllMeant d) (sym reached.is) (meant reached.events reached.run)

  goes_at : (w : World) (entry : ScheduleEntry) → Reached w → EntryFits d w entry → Goes db w entry
  goes_at w entry reached fits = goes d w entry (meant_at w reached) fits

  next : (w : World) (entry : ScheduleEntry) → Reached w → EntryFits d w entry → Reached (entered db w entry)
  next w entry reached fits = reached_more db start w (events_of w entry) reached (goes_at w entry reached fits).run

  pub schedule_runs : (w : World) (schedule : List ScheduleEntry) → Reached w → Fits d w schedule → IsWorldRun db w schedule
  schedule_runs w [] reached fits = record { run = tt; world = refl }
  schedule_runs w (entry ∷ schedule) reached fits =
      let later = schedule_runs (entered db w entry) schedule (next w entry reached fits.0) fits.1 in
      record {
        run =
            run-append db w (events_of w entry) (all_events db (entered db w entry) schedule) (goes_at w entry reached fits.0).run later.run;
        world =
            world-append db w (events_of w entry) (all_events db (entered db w entry) schedule) ∙ later.world;
      }

  -- the lives after an entry
  abbrev lives_after : World → (ℕ → Life) → ScheduleEntry → ℕ → Life
  lives_after w lives entry k = life_after (length w.hosts) k (lives k) entry (seen_of db w (events_of w entry))

  pub schedule_replays : (w : World) (schedule : List ScheduleEntry) (lives : ℕ → Life) → Reached w → Fits d w schedule → AllLives db w lives
      → AllLives db (scheduled db w schedule) (λ k. life_in db w k (lives k) schedule)
  schedule_replays w [] lives reached fits all = all
  schedule_replays w (entry ∷ schedule) lives reached fits all =
      schedule_replays (entered db w entry) schedule (lives_after w lives entry) (next w entry reached fits.0) fits.1
      ((goes_at w entry reached fits.0).replays lives all)

  -- ---- journals

  abbrev Journal : ℕ → Life → Type 0
  Journal k life = HasJournal d (member start k) life

  same_member : (w : World) (k : ℕ) → w.hosts ≡ hosts → member w k ≡ member start k
  same_member w k same = ap (λ (hs : List Host). record { hosts = hs; me = k }) same

  -- an item at a server that is the replay of its items is one behind these
  module _ (w : World) (k : ℕ) (item : JournalItem) (site : Site) (life : Life) (same : w.hosts ≡ hosts) (there : site_of w k ≡ Some site)
      (up : is_down site.node ≡ false) (is : IsLife db (member w k) life site) where
    abbrev IsNext : Type 0
    IsNext = IsOwnItem d (member start k) (replayed db (member start k) life.opened life.items).node (asked_in [] life.items) item

    abbrev IsHere : Type 0
    IsHere = IsOwnItem d (member w k) (node_in (site_of w k)) (asked_at (site_of w k)) item

    node_is : node_in (site_of w k) ≡ (replayed db (member start k) life.opened life.items).node
    node_is =
        ap node_in there ∙ sym (ap (λ (r : Replayed). r.node) (replay_is db (member w k) life site.node up is.replay))
        ∙ ap (λ (m : Member). (replayed db m life.opened life.items).node) (same_member w k same)

    asked_is : asked_at (site_of w k) ≡ asked_in [] life.items
    asked_is = ap asked_at there ∙ is.asked up

    next_of : IsHere → IsNext
    next_of own =
        subst (λ (ids : List ℕ). IsOwnItem d (member start k) (replayed db (member start k) life.opened life.items).node ids item) asked_is
        (subst (λ (node : Node). IsOwnItem d (member start k) node (asked_at (site_of w k)) item) node_is
        (subst (λ (m : Member). IsOwnItem d m (node_in (site_of w k)) (asked_at (site_of w k)) item) (same_member w k same) own))

    here_of : IsNext → IsHere
    here_of own =
        subst (λ (m : Member). IsOwnItem d m (node_in (site_of w k)) (asked_at (site_of w k)) item) (sym (same_member w k same))
        (subst (λ (node : Node). IsOwnItem d (member start k) node (asked_at (site_of w k)) item) (sym node_is)
        (subst (λ (ids : List ℕ). IsOwnItem d (member start k) (replayed db (member start k) life.opened life.items).node ids item) (sym asked_is)
        own))

  -- one item more in a journal
  journal_more : (k : ℕ) (life : Life) (item : JournalItem) (seen : List Happening) → Journal k life
      → IsOwnItem d (member start k) (replayed db (member start k) life.opened life.items).node (asked_in [] life.items) item
      → Journal k (life_with life item seen)
  journal_more k life item seen journal own = record {
    each = items_more d (member start k) life.opened life.items item journal.each own.item_of;
    once = once_more [] life.items item journal.once own.new;
  }

  journal_last : (k : ℕ) (life : Life) (item : JournalItem) (seen : List Happening) → Journal k (life_with life item seen)
      → IsOwnItem d (member start k) (replayed db (member start k) life.opened life.items).node (asked_in [] life.items) item
  journal_last k life item seen journal = record {
    item_of = items_last d (member start k) life.opened life.items item journal.each;
    new = once_last [] life.items item journal.once;
  }

  journal_front : (k : ℕ) (life : Life) (item : JournalItem) (seen : List Happening) → Journal k (life_with life item seen) → Journal k life
  journal_front k life item seen journal = record {
    each = items_front d (member start k) life.opened life.items item journal.each;
    once = once_front [] life.items item journal.once;
  }

  -- an item that fits is the next one of its server's journal
  journal_after : (w : World) (entry : ScheduleEntry) (lives : ℕ → Life) → w.hosts ≡ hosts → AllLives db w lives → EntryFits d w entry
      → ((k : ℕ) → Journal k (lives k)) → (k : ℕ) → Journal k (lives_after w lives entry k)
  journal_after w (Tick server seconds) lives same all fits journals k = journals k
  journal_after w (Tick_all seconds) lives same all fits journals k = journals k
  journal_after w (Open server now found) lives same all fits journals k =
      cond_both (server == k) (life_from (length w.hosts) found now) (lives k) (Journal k) (λ _. record { each = tt; once = refl })
      (λ _. journals k)
  journal_after w (Item server trigger item progress) lives same all fits journals k =
      let seen = seen_of db w (events_of w (Item server trigger item progress)) in
      cond_both (server == k) (life_with (lives k) item seen) (lives k) (Journal k)
      (λ is. subst (λ (j : ℕ). Journal j (life_with (lives j) item seen)) (grind (arith, nat_tests)) here_more) (λ _. journals k)
    where
      here_more : Journal server (life_with (lives server) item (seen_of db w (events_of w (Item server trigger item progress))))
      here_more =
          let site = some_site (ItemFits item) (site_of w server) fits.0.1 in
          journal_more server (lives server) item (seen_of db w (events_of w (Item server trigger item progress))) (journals server)
          (next_of w server item site.0 (lives server) same site.1 site.2.up (all server site.0 site.1) fits.1)
  journal_after w (Stop server trigger progress) lives same all fits journals k = journals k

  pub schedule_journals : (w : World) (schedule : List ScheduleEntry) (lives : ℕ → Life) → Reached w → w.hosts ≡ hosts → AllLives db w lives
      → Fits d w schedule → ((k : ℕ) → Journal k (lives k)) → (k : ℕ) → Journal k (life_in db w k (lives k) schedule)
  schedule_journals w [] lives reached same all fits journals k = journals k
  schedule_journals w (entry ∷ schedule) lives reached same all fits journals k =
      schedule_journals (entered db w entry) schedule (lives_after w lives entry) (next w entry reached fits.0)
      (all_hosts_stay db w (events_of w entry) ∙ same) ((goes_at w entry reached fits.0).replays lives all) fits.1
      (journal_after w entry lives same all fits.0 journals) k

  -- an item that the world allows is its server's own, where it is the next one of its journal
  own_by : (w : World) (entry : ScheduleEntry) (lives : ℕ → Life) → w.hosts ≡ hosts → AllLives db w lives → IsAllowed w entry
      → ((k : ℕ) → Journal k (lives_after w lives entry k)) → IsOwn d w entry
  own_by w (Tick server seconds) lives same all allowed journals = tt
  own_by w (Tick_all seconds) lives same all allowed journals = tt
  own_by w (Open server now found) lives same all allowed journals = tt
  own_by w (Item server trigger item progress) lives same all allowed journals =
      let site = some_site (ItemFits item) (site_of w server) allowed.1 in
      let seen = seen_of db w (events_of w (Item server trigger item progress)) in
      let journal : Journal server (life_with (lives server) item seen) =
      subst (Journal server) (here server server (life_with (lives server) item seen) (lives server) refl) (journals server) in
      here_of w server item site.0 (lives server) same site.1 site.2.up (all server site.0 site.1)
      (journal_last server (lives server) item seen journal)
  own_by w (Stop server trigger progress) lives same all allowed journals = tt

  -- what is so at the end of each life of server k
  abbrev AtEnds : World → ℕ → Life → List ScheduleEntry → Type 0
  AtEnds w k life schedule =
      (front rest : List ScheduleEntry) → schedule ≡ front ++ rest → ends_life k rest ≡ true → Journal k (life_in db w k life front)

  behind : (w : World) (k : ℕ) (life : Life) (entry : ScheduleEntry) (schedule : List ScheduleEntry) → AtEnds w k life (entry ∷ schedule)
      → AtEnds (entered db w entry) k (life_after (length w.hosts) k life entry (seen_of db w (events_of w entry))) schedule
  behind w k life entry schedule ends front rest split =
      ends (entry ∷ front) rest (ap (λ (list : List ScheduleEntry). entry ∷ list) split)

  in_either : (k : ℕ) (b : Bool) (other life : Life) → (b ≡ true → Journal k other → Journal k life) → Journal k (cond b other life) → Journal k life
  in_either k true other life from is = from refl is
  in_either k false other life from is = is

  -- is so within it
  within : (w : World) (k : ℕ) (life : Life) (schedule : List ScheduleEntry) → AtEnds w k life schedule → Journal k life
  within w k life [] ends = ends [] [] refl refl
  within w k life (Tick server seconds ∷ schedule) ends =
      within (entered db w (Tick server seconds)) k life schedule (behind w k life (Tick server seconds) schedule ends)
  within w k life (Tick_all seconds ∷ schedule) ends =
      within (entered db w (Tick_all seconds)) k life schedule (behind w k life (Tick_all seconds) schedule ends)
  within w k life (Stop server trigger progress ∷ schedule) ends =
      let entry = Stop server trigger progress in within (entered db w entry) k life schedule (behind w k life entry schedule ends)
  within w k life (Open server now found ∷ schedule) ends =
      let entry = Open server now found in
      let new = life_from (length w.hosts) found now in
      in_either k (server == k) new life (λ is later. ends [] (entry ∷ schedule) refl is)
      (within (entered db w entry) k (cond (server == k) new life) schedule (behind w k life entry schedule ends))
  within w k life (Item server trigger item progress ∷ schedule) ends =
      let entry = Item server trigger item progress in
      let more = life_with life item (seen_of db w (events_of w entry)) in
      in_either k (server == k) more life (λ is later. journal_front k life item (seen_of db w (events_of w entry)) later)
      (within (entered db w entry) k (cond (server == k) more life) schedule (behind w k life entry schedule ends))

  pub schedule_fits : (w : World) (schedule : List ScheduleEntry) (lives : ℕ → Life) → Reached w → w.hosts ≡ hosts → AllLives db w lives
      → AllAllowed db w schedule → ((k : ℕ) → AtEnds w k (lives k) schedule) → Fits d w schedule
  schedule_fits w [] lives reached same all allowed ends = tt
  schedule_fits w (entry ∷ schedule) lives reached same all allowed ends =
      let after = entered db w entry in
      let later = λ (k : ℕ). behind w k (lives k) entry schedule (ends k) in
      let journals = λ (k : ℕ). within after k (lives_after w lives entry k) schedule (later k) in
      let fits : EntryFits d w entry = (allowed.0, own_by w entry lives same all allowed.0 journals) in (
        fits,
        schedule_fits after schedule (lives_after w lives entry) (next w entry reached fits)
            (all_hosts_stay db w (events_of w entry) ∙ same) ((goes_at w entry reached fits).replays lives all) allowed.1 later,
      )
