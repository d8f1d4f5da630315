-- What servers that run are worth: the laws of runs, of each schedule that fits (own).
use Rattle.std.specs.Prelude.{◌≡◌, ◌≢◌, ℕ, Bool, true, false, Some, List, ◌++◌, All}
use Rattle.std.specs.List.{AllByRecursion}
use Rattle.db_image.specs.Database.{Database}
use Rattle.db_image.specs.Standing.{Standing}
use Rattle.ubik_types.specs.declared.hosts.Host.{Host}
use Rattle.ubik_calls.specs.declared.replies.Reply.{Reply}
use Rattle.ubik_calls.specs.declared.replies.Reply.TheVariants as reply
use Rattle.cell_model.specs.declared.events.Output.{Output}
use Rattle.cell_model.specs.declared.events.Output.TheVariants as output
use Rattle.cell_model.specs.Book.{Run, Given, order_of, is_ready_site}
use Rattle.cell_model.specs.KeptLaws.{IsPlaced}
use Rattle.cell_model.specs.Laws.{Grows}
use Rattle.cell_model.specs.Node.{Up, Server}
use Rattle.cell_model.specs.World.{Site, World, Event, IsFirst, first_world, is_down, member, site_of}
use Rattle.cell_laws.specs.Laws.{IsInLease, Rises}
use Rattle.cell_pages.specs.Laws.{run_of}
use Rattle.cell_pages.specs.OneLabel.{HasOneLabel}
use Rattle.cell_orders.specs.Asked.{AnswersAsk}
use Rattle.cell_orders.specs.Laws.{ServesOrder}
use Rattle.cell_orders.specs.Replies.{IsSingleReply, IsAtSync, PrefixesStay}
use Rattle.journal_model.specs.Replay.{replayed}
use Rattle.journal_model.specs.Schedules.{ScheduleEntry, Fits, Life, all_events, scheduled}
use Rattle.journal_model.specs.Standings.{each_image}
use Rattle.server_laws.specs.Laws.{life_of}

-- A reply of server k is one of those that its database gave in a run: it is to a call that was asked there, and is that of the single
-- copy after the list of a version, a front of the order.
pub record IsSingleAnswer (db : Database) (r : Run) (events : List Event) (k id : ℕ) (answer : Reply) : Type 0 where
  pub given : Given
  pub server : given.server ≡ k
  pub id_is : given.id ≡ id
  pub reply_is : given.reply ≡ answer
  pub single : IsSingleReply db r.book (order_of r.announcements) given
  pub asked : AnswersAsk events given

-- so of what server k puts out, if it is an Ok or a Rule
abbrev pub IsSinglePut : Database → Run → List Event → ℕ → Output → Type 0
IsSinglePut db r events k (output.Reply id (reply.Ok fields)) = IsSingleAnswer db r events k id (reply.Ok fields)
IsSinglePut db r events k (output.Reply id (reply.Rule number)) = IsSingleAnswer db r events k id (reply.Rule number)
IsSinglePut db r events k _ = Unit {0}

module _ (db : Database) (hosts : List Host) (clock : ℕ) (failed : List Bool) where
  -- after a schedule, from the first world of a cell on: the events, the run, the world, and the life of server k
  abbrev pub events_in : List ScheduleEntry → List Event
  events_in schedule = all_events db (first_world hosts clock failed) schedule

  abbrev pub run_in : List ScheduleEntry → Run
  run_in schedule = run_of db hosts clock failed (events_in schedule)

  abbrev pub world_in : List ScheduleEntry → World
  world_in schedule = scheduled db (first_world hosts clock failed) schedule

  abbrev pub life_at : List ScheduleEntry → ℕ → Life
  life_at schedule k = life_of db hosts clock failed schedule k

  -- What a schedule of servers that run is worth.
  pub record KeepsPromises (schedule : List ScheduleEntry) : Type 0 where
    -- at each place at most one server is in lease
    pub leases : (front rest : List ScheduleEntry) → schedule ≡ front ++ rest →
        (h k : ℕ) → IsInLease (world_in front) h → IsInLease (world_in front) k → h ≡ k
    -- the epoch of each relabelling is above all before it
    pub epochs : Rises (run_in schedule).book
    -- at each place one version is one list of transactions, and one image
    pub labels : (front rest : List ScheduleEntry) → schedule ≡ front ++ rest → HasOneLabel db (run_in front)
    -- the list of each announcement is a front of the list of each later one
    pub order : Grows (run_in schedule).announcements
    -- what was acknowledged at any place is in the order at each later one, at its place
    pub stays : (front middle rest : List ScheduleEntry) → schedule ≡ (front ++ middle) ++ rest →
        All (IsPlaced (order_of (run_in (front ++ middle)).announcements)) (run_in front).acknowledged
    -- the database of each ready sync site at any place is that of the single copy after the order there
    pub sites : (front rest : List ScheduleEntry) → schedule ≡ front ++ rest →
        (k : ℕ) (site : Site) (s : Server) → site_of (world_in front) k ≡ Some site → site.node ≡ Up s →
        is_ready_site (member (world_in front) k) site.clock (Up s) ≡ true → ServesOrder db (run_in front) s
    -- at each place each Ok and each Rule that the replay of a server's items puts out is a reply of the single copy
    pub replies : (front rest : List ScheduleEntry) → schedule ≡ front ++ rest →
        (k : ℕ) (site : Site) → site_of (world_in front) k ≡ Some site → is_down site.node ≡ false →
        AllByRecursion (IsSinglePut db (run_in front) (events_in front) k)
        (replayed db (member (world_in front) k) (life_at front k).opened (life_at front k).items).outputs
    -- each reply that the sync site gave behind a place was evaluated on an order that has all that was acknowledged there
    pub acknowledged : (front middle rest : List ScheduleEntry) → schedule ≡ (front ++ middle) ++ rest →
        (new : List Given) × ((run_in (front ++ middle)).given ≡ new ++ (run_in front).given)
        × All (λ (g : Given). IsAtSync g.evaluation.basis → All (IsPlaced g.order) (run_in front).acknowledged) new
    -- the lists from which one server replied grow as prefixes, openings included
    pub prefixes : PrefixesStay (run_in schedule).book (run_in schedule).given

-- In each cell, so of each schedule that fits: over a database over drafts, whose blocks have a length.
abbrev pub RunningServersKeepPromises : Standing → Type 0
RunningServersKeepPromises d =
    d.database.block ≢ 0 → (hosts : List Host) (clock : ℕ) (failed : List Bool) (schedule : List ScheduleEntry) →
    IsFirst hosts clock failed → Fits d (first_world hosts clock failed) schedule → KeepsPromises d.database hosts clock failed schedule

-- so over any database, no image of which is without a state
abbrev pub AnyServersKeepPromises : Type 0
AnyServersKeepPromises =
    (db : Database) (hosts : List Host) (clock : ℕ) (failed : List Bool) (schedule : List ScheduleEntry) →
    IsFirst hosts clock failed → Fits (each_image db) (first_world hosts clock failed) schedule → KeepsPromises db hosts clock failed schedule
