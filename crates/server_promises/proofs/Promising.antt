-- The promises of servers that run, from the laws of runs and of schedules.
use Rattle.std.proofs.Common.{Bool, true, false, ◌≡◌, ℕ, List, [], ◌∷◌, ◌++◌, length, refl, sym, ap, subst, ◌∙◌}
use Rattle.std.proofs.lemmas.List.{append_assoc}
use Rattle.std.proofs.lemmas.List.Elements.{All-weaker}
use Rattle.std.specs.List.{AllByRecursion}
use Rattle.std.specs.Prelude.{Some, All, Contains}
use Rattle.ubik_types.specs.declared.hosts.Host.{Host}
use Rattle.db_image.specs.Database.{Database}
use Rattle.db_image.specs.Standing.{Standing}
use Rattle.cell_model.specs.Book.{Given, Run, first_run, is_ready_site, order_of, run_through}
use Rattle.cell_model.specs.Durable.{no_database}
use Rattle.cell_model.specs.KeptLaws.{IsPlaced}
use Rattle.cell_model.specs.Node.{Node, Up, Server}
use Rattle.cell_model.specs.World.{World, Site, Event, IsFirst, IsRun, first_world, happens, is_down, member, site_of, world_after}
use Rattle.cell_laws.specs.Laws.{EpochsRise, IsInLease, LeasesExclude}
use Rattle.cell_pages.specs.OneLabel.{OneLabel}
use Rattle.cell_orders.specs.Laws.{ServesOrder}
use Rattle.cell_orders.specs.Laws as orders
use Rattle.cell_orders.specs.Replies.{IsAtSync}
use Rattle.journal_model.specs.Replay.{Replayed, replayed}
use Rattle.journal_model.specs.Schedules.{ScheduleEntry, Fits, IsReplay, all_events, entered, events_of, life_from, scheduled}
use Rattle.journal_model.specs.Standings.{each_image}
use Rattle.server_laws.specs.Laws.{AnyMakeAWorld, MakesAWorld, ServersMakeAWorld}
use Rattle.server_laws.proofs.Lives.{replay_is}
use Rattle.server_promises.specs.Promises.{AnyServersKeepPromises, IsSinglePut, KeepsPromises, RunningServersKeepPromises, life_at, run_in}
use Rattle.server_promises.proofs.Given.{AllPut, all_single}
use Rattle.server_promises.proofs.Schedules.{first_reached, schedule_put, through-append, world_of_run}

-- the laws that they rest on
pub record Laws : Type 0 where
  pub leases : LeasesExclude
  pub epochs : EpochsRise
  pub label : OneLabel
  pub order : orders.AnnouncementsGrow
  pub stay : orders.AcknowledgedStay
  pub sites : orders.SitesServeTheOrder
  pub single : orders.RepliesAreSingle
  pub given : orders.RepliesAreGiven
  pub asked : orders.RepliesAnswerAsks
  pub acknowledged : orders.RepliesHaveAcknowledged
  pub prefixes : orders.RepliesGrow

events-append : (db : Database) (w : World) (front back : List ScheduleEntry)
    → all_events db w (front ++ back) ≡ all_events db w front ++ all_events db (scheduled db w front) back
events-append db w [] back = refl
events-append db w (entry ∷ front) back =
    ap (λ (events : List Event). events_of w entry ++ events) (events-append db (entered db w entry) front back)
    ∙ sym (append_assoc (events_of w entry) (all_events db (entered db w entry) front)
    (all_events db (scheduled db (entered db w entry) front) back))

back_run : (db : Database) (w : World) (front back : List Event) → IsRun db w (front ++ back) → IsRun db (world_after db w front) back
back_run db w [] back run = run
back_run db w (e ∷ front) back run = back_run db (happens db w e).world front back run.1

module _ (is : Laws) (d : Standing) (hosts : List Host) (clock : ℕ) (failed : List Bool) (first : IsFirst hosts clock failed)
    (makes : MakesAWorld d hosts clock failed) where
  abbrev db : Database
  db = d.database

  abbrev start : World
  start = first_world hosts clock failed

  abbrev events_at : List ScheduleEntry → List Event
  events_at schedule = all_events db start schedule

  -- ---- at a place

  module _ (front : List ScheduleEntry) (fits : Fits d start front) where
    abbrev run_here : Run
    run_here = run_in db hosts clock failed front

    legal : IsRun db start (events_at front)
    legal = (makes.run front fits).run

    world_is : run_here.world ≡ scheduled db start front
    world_is = world_of_run db (first_run start) (events_at front) ∙ (makes.run front fits).world

    leases_at : (h k : ℕ) → IsInLease (scheduled db start front) h → IsInLease (scheduled db start front) k → h ≡ k
    leases_at =
        subst (λ (w : World). (h k : ℕ) → IsInLease w h → IsInLease w k → h ≡ k) (makes.run front fits).world
        (is.leases db hosts clock failed (events_at front) first legal)

    sites_at : (k : ℕ) (site : Site) (s : Server) → site_of (scheduled db start front) k ≡ Some site → site.node ≡ Up s
        → is_ready_site (member (scheduled db start front) k) site.clock (Up s) ≡ true → ServesOrder db run_here s
    sites_at =
        subst
        (λ (w : World). (k : ℕ) (site : Site) (s : Server) → site_of w k ≡ Some site → site.node ≡ Up s
        → is_ready_site (member w k) site.clock (Up s) ≡ true → ServesOrder db run_here s)
        world_is (is.sites db hosts clock failed (events_at front) first legal)

    put_at : (k : ℕ) → AllPut run_here.given k (life_at db hosts clock failed front k).outputs
    put_at k =
        schedule_put is.given d hosts clock failed first makes.meant k (first_run start) (life_from (length hosts) no_database clock) front
        (first_reached is.given d hosts clock failed first makes.meant) fits tt

    replies_at : (k : ℕ) (node : Node) → is_down node ≡ false → IsReplay db (member (scheduled db start front) k) (life_at db hosts clock failed front k) node
        → AllByRecursion (IsSinglePut db run_here (events_at front) k)
        (replayed db (member (scheduled db start front) k) (life_at db hosts clock failed front k).opened (life_at db hosts clock failed front k).items).outputs
    replies_at k node up replay =
        let life = life_at db hosts clock failed front k in
        let same = replay_is db (member (scheduled db start front) k) life node up replay in
        subst (AllByRecursion (IsSinglePut db run_here (events_at front) k)) (sym (ap (λ (r : Replayed). r.outputs) same))
        (all_single db run_here (events_at front) k (is.single db hosts clock failed (events_at front) first legal)
        (is.asked db hosts clock failed (events_at front) first legal) life.outputs (put_at k))

  -- ---- between two places

  module _ (front middle : List ScheduleEntry) (fits : Fits d start (front ++ middle)) where
    abbrev run_before : Run
    run_before = run_in db hosts clock failed front

    front_legal : IsRun db start (events_at front)
    front_legal = legal front (makes.fronts front middle fits)

    abbrev middle_events : List Event
    middle_events = all_events db (scheduled db start front) middle

    split : events_at (front ++ middle) ≡ events_at front ++ middle_events
    split = events-append db start front middle

    middle_legal : IsRun db (world_after db start (events_at front)) middle_events
    middle_legal = back_run db start (events_at front) middle_events (subst (IsRun db start) split (legal (front ++ middle) fits))

    whole : run_through db run_before middle_events ≡ run_in db hosts clock failed (front ++ middle)
    whole =
        sym (through-append db (first_run start) (events_at front) middle_events)
        ∙ ap (λ (events : List Event). run_through db (first_run start) events) (sym split)

    stays_at : All (IsPlaced (order_of (run_in db hosts clock failed (front ++ middle)).announcements)) run_before.acknowledged
    stays_at =
        let later = run_through db run_before middle_events in
        subst (λ (x : Run). All (IsPlaced (order_of x.announcements)) run_before.acknowledged) whole
        (All-weaker (λ a. Contains later.acknowledged a × IsPlaced (order_of later.announcements) a) (IsPlaced (order_of later.announcements))
        (λ a both. both.1) run_before.acknowledged
        (is.stay db hosts clock failed (events_at front) middle_events first front_legal middle_legal))

    acknowledged_at : (new : List Given) × ((run_in db hosts clock failed (front ++ middle)).given ≡ new ++ run_before.given)
        × All (λ (g : Given). IsAtSync g.evaluation.basis → All (IsPlaced g.order) run_before.acknowledged) new
    acknowledged_at =
        subst
        (λ (x : Run). (new : List Given) × (x.given ≡ new ++ run_before.given)
        × All (λ (g : Given). IsAtSync g.evaluation.basis → All (IsPlaced g.order) run_before.acknowledged) new)
        whole (is.acknowledged db hosts clock failed (events_at front) middle_events first front_legal middle_legal)

  -- ---- a schedule

  module _ (schedule : List ScheduleEntry) (fits : Fits d start schedule) where
    front_fits : (front rest : List ScheduleEntry) → schedule ≡ front ++ rest → Fits d start front
    front_fits front rest split = makes.fronts front rest (subst (Fits d start) split fits)

    pub keeps_promises : KeepsPromises db hosts clock failed schedule
    keeps_promises = record {
      leases = λ front rest split. leases_at front (front_fits front rest split);
      epochs = is.epochs db hosts clock failed (events_at schedule) first (legal schedule fits);
      labels = λ front rest split.
          is.label db hosts clock failed (events_at front) first (legal front (front_fits front rest split));
      order = is.order db hosts clock failed (events_at schedule) first (legal schedule fits);
      stays = λ front middle rest split. stays_at front middle (front_fits (front ++ middle) rest split);
      sites = λ front rest split. sites_at front (front_fits front rest split);
      replies = λ front rest split k site there up.
          replies_at front (front_fits front rest split) k site.node up
          (makes.replays front rest (subst (Fits d start) split fits) k site there);
      acknowledged = λ front middle rest split. acknowledged_at front middle (front_fits (front ++ middle) rest split);
      prefixes = is.prefixes db hosts clock failed (events_at schedule) first (legal schedule fits);
    }

pub running_servers_keep_promises : Laws → (d : Standing) → ServersMakeAWorld d → RunningServersKeepPromises d
running_servers_keep_promises is d makes block hosts clock failed schedule first fits =
    keeps_promises is d hosts clock failed first (makes block hosts clock failed first) schedule fits

pub any_servers_keep_promises : Laws → AnyMakeAWorld → AnyServersKeepPromises
any_servers_keep_promises is makes db hosts clock failed schedule first fits =
    keeps_promises is (each_image db) hosts clock failed first (makes db hosts clock failed) schedule fits
