-- What each server of a schedule put out since it was last opened is among the replies of the run.
use Rattle.std.proofs.Common.{Bool, true, false, cond, ◌==◌, ◌≡◌, ℕ, ◌+◌, List, [], ◌∷◌, ◌++◌, length, refl, sym, ap, subst, ◌∙◌, arith}
use Rattle.std.proofs.lemmas.Bool.{cond_both}
use Rattle.std.proofs.lemmas.Bool.Decides.{nat_tests}
use Rattle.std.proofs.lemmas.List.{append-nil}
use Rattle.std.specs.Prelude.{All, filter_map}
use Rattle.ubik_types.specs.declared.hosts.Host.{Host}
use Rattle.db_image.specs.Database.{Database}
use Rattle.db_image.specs.Standing.{Standing}
use Rattle.cell_model.specs.Book.{Run, entered, first_run, run_after, run_through}
use Rattle.cell_model.specs.World.{World, Site, Trigger, Event, Happened, IsFirst, IsRun, asked_after, first_world, happens, member, seen_of, site_of, world_after}
use Rattle.cell_model.specs.World as world
use Rattle.cell_pages.specs.Laws.{run_of}
use Rattle.cell_orders.specs.Laws.{RepliesAreGiven}
use Rattle.cell_orders.specs.Replies.{HasEvaluation}
use Rattle.journal_model.specs.Items.{JournalItem}
use Rattle.journal_model.specs.Replay.{item_replayed}
use Rattle.journal_model.specs.Schedules.{ScheduleEntry, Tick, Tick_all, Open, Item, Stop, EntryFits, Fits, ItemFits, Life, Progress}
use Rattle.journal_model.specs.Schedules.{all_events, item_event, life_from, life_in, life_with, node_in, output_in}
use Rattle.server_laws.specs.Laws.{AllMeant}
use Rattle.server_laws.proofs.Events.{Comes}
use Rattle.server_laws.proofs.Runs.{goes, item_fit_comes, run-append}
use Rattle.server_laws.proofs.Sites.{some_site}
use Rattle.server_promises.proofs.Given.{AllAt, AllPut, all_append, all_at, all_more, given_more, seen_put}

pub through-append : (db : Database) (r : Run) (front back : List Event)
    → run_through db r (front ++ back) ≡ run_through db (run_through db r front) back
through-append db r [] back = refl
through-append db r (e ∷ front) back = through-append db (run_after db r e) front back

pub world_of_run : (db : Database) (r : Run) (events : List Event) → (run_through db r events).world ≡ world_after db r.world events
world_of_run db r [] = refl
world_of_run db r (e ∷ events) = world_of_run db (run_after db r e) events

module _ (given : RepliesAreGiven) (d : Standing) (hosts : List Host) (clock : ℕ) (failed : List Bool) (first : IsFirst hosts clock failed)
    (meant : (events : List Event) → IsRun d.database (first_world hosts clock failed) events →
    AllMeant d (world_after d.database (first_world hosts clock failed) events)) where
  abbrev db : Database
  db = d.database

  -- a run from the first world on
  pub record IsReached (r : Run) : Type 0 where
    pub events : List Event
    pub run : IsRun db (first_world hosts clock failed) events
    pub is : r ≡ run_of db hosts clock failed events

  pub first_reached : IsReached (first_run (first_world hosts clock failed))
  first_reached = record { events = []; run = tt; is = refl }

  later_reached : (r : Run) (events : List Event) → IsReached r → IsRun db r.world events → IsReached (run_through db r events)
  later_reached r events reached run =
      let start = first_run (first_world hosts clock failed) in
      let world : r.world ≡ world_after db (first_world hosts clock failed) reached.events =
      ap (λ (x : Run). x.world) reached.is ∙ world_of_run db start reached.events in
      record {
        events = reached.events ++ events;
        run =
            run-append db (first_world hosts clock failed) reached.events events reached.run (subst (λ (w : World). IsRun db w events) world run);
        is = ap (λ (x : Run). run_through db x events) reached.is ∙ sym (through-append db start reached.events events);
      }

  meant_at : (r : Run) → IsReached r → AllMeant d r.world
  meant_at r reached =
      let world : r.world ≡ world_after db (first_world hosts clock failed) reached.events =
      ap (λ (x : Run). x.world) reached.is ∙ world_of_run db (first_run (first_world hosts clock failed)) reached.events in
      subst (AllMeant d) (sym world) (meant reached.events reached.run)

  -- each Ok and each Rule of the next event is a reply that a database gave
  next_given : (r : Run) (e : Event) → IsReached r → All HasEvaluation (happens db r.world e).seen
  next_given r e reached =
      subst (λ (x : Run). All HasEvaluation (happens db x.world e).seen) (sym reached.is)
      (given db hosts clock failed reached.events e first reached.run)

  -- what server k put out since it was last opened is in the run
  abbrev Put : ℕ → Run → Life → Type 0
  Put k r life = AllPut r.given k life.outputs

  event_more : (k : ℕ) (r : Run) (e : Event) (life : Life) → Put k r life → Put k (run_after db r e) life
  event_more k r e life put =
      all_more r.given (run_after db r e).given k
      (given_more (entered r.book (happens db r.world e).entries) (happens db r.world e).seen r.announcements r.given) life.outputs put

  -- ---- an item

  module _ (r : Run) (server : ℕ) (trigger : Trigger) (item : JournalItem) (progress : Progress) where
    abbrev event_of_item : Event
    event_of_item = item_event (node_in (site_of r.world server)) trigger item progress

    -- what is seen of it is seen of its server
    item_at : IsReached r → EntryFits d r.world (Item server trigger item progress) → AllAt server (happens db r.world event_of_item).seen
    item_at reached fits =
        let site = some_site (ItemFits item) (site_of r.world server) fits.0.1 in
        let c : Comes db r.world server event_of_item (item_replayed db (member r.world server) (node_in (site_of r.world server)) item)
        (asked_after site.0.asked item.event) =
        item_fit_comes d r.world server trigger item progress site.0 (meant_at r reached) site.1 fits.0.0 site.2 fits.1 in
        subst (λ (h : Happened). AllAt server h.seen) (sym c.is)
        (all_at server (length r.world.packets + 1) c.happened.shown c.happened.marks c.silent)

    item_put : (k : ℕ) (life : Life) → IsReached r → EntryFits d r.world (Item server trigger item progress) → server ≡ k → Put k r life
        → Put k (run_after db r event_of_item) (life_with life item (seen_of db r.world (event_of_item ∷ [])))
    item_put k life reached fits same put =
        let seen = (happens db r.world event_of_item).seen in
        let list = (run_after db r event_of_item).given in
        let new : AllPut list k (filter_map output_in seen) =
        seen_put (entered r.book (happens db r.world event_of_item).entries) k seen r.announcements r.given
        (subst (λ (j : ℕ). AllAt j seen) same (item_at reached fits)) (next_given r event_of_item reached) in
        all_append list k life.outputs (filter_map output_in (seen_of db r.world (event_of_item ∷ []))) (event_more k r event_of_item life put)
        (subst (AllPut list k) (sym (ap (filter_map output_in) (append-nil seen))) new)

  -- ---- a schedule

  same_number : (a b : ℕ) → (a == b) ≡ true → a ≡ b
  same_number a b is = grind (arith, nat_tests)

  pub schedule_put : (k : ℕ) (r : Run) (life : Life) (schedule : List ScheduleEntry) → IsReached r → Fits d r.world schedule → Put k r life
      → Put k (run_through db r (all_events db r.world schedule)) (life_in db r.world k life schedule)
  schedule_put k r life [] reached fits put = put
  schedule_put k r life (Tick server seconds ∷ schedule) reached fits put =
      let e = world.Tick server seconds in
      schedule_put k (run_after db r e) life schedule
      (later_reached r (e ∷ []) reached (goes d r.world (Tick server seconds) (meant_at r reached) fits.0).run) fits.1 (event_more k r e life put)
  schedule_put k r life (Tick_all seconds ∷ schedule) reached fits put =
      let e = world.Tick_all seconds in
      schedule_put k (run_after db r e) life schedule
      (later_reached r (e ∷ []) reached (goes d r.world (Tick_all seconds) (meant_at r reached) fits.0).run) fits.1 (event_more k r e life put)
  schedule_put k r life (Open server now found ∷ schedule) reached fits put =
      let crash = world.Crash server in
      let restart = world.Restart server false in
      let more : Put k (run_after db (run_after db r crash) restart) life =
      event_more k (run_after db r crash) restart life (event_more k r crash life put) in
      schedule_put k (run_after db (run_after db r crash) restart) (cond (server == k) (life_from (length r.world.hosts) found now) life) schedule
      (later_reached r (crash ∷ restart ∷ []) reached (goes d r.world (Open server now found) (meant_at r reached) fits.0).run) fits.1
      (cond_both (server == k) (life_from (length r.world.hosts) found now) life (Put k (run_after db (run_after db r crash) restart)) (λ _. tt)
      (λ _. more))
  schedule_put k r life (Item server trigger item progress ∷ schedule) reached fits put =
      let e = event_of_item r server trigger item progress in
      let with = life_with life item (seen_of db r.world (e ∷ [])) in
      schedule_put k (run_after db r e) (cond (server == k) with life) schedule
      (later_reached r (e ∷ []) reached (goes d r.world (Item server trigger item progress) (meant_at r reached) fits.0).run) fits.1
      (cond_both (server == k) with life (Put k (run_after db r e))
      (λ same. item_put r server trigger item progress k life reached fits.0 (same_number server k same) put)
      (λ _. event_more k r e life put))
  schedule_put k r life (Stop server trigger progress ∷ schedule) reached fits put =
      let e = world.Stop trigger progress.short progress.made in
      schedule_put k (run_after db r e) life schedule
      (later_reached r (e ∷ []) reached (goes d r.world (Stop server trigger progress) (meant_at r reached) fits.0).run) fits.1 (event_more k r e life put)
