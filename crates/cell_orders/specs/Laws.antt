-- Announced transactions have one order, and acknowledged ones stay in it, in cells of every size (own).
use Rattle.std.specs.Prelude.{◌≡◌, ℕ, Bool, true, Some, List, ◌++◌, All, Contains, length}
use Rattle.db_image.specs.Database.{Database}
use Rattle.ubik_types.specs.declared.hosts.Host.{Host}
use Rattle.ubik_types.specs.declared.versions.Version.{Version}
use Rattle.ubik_types.specs.Phase.{Polled, Spread, Ready}
use Rattle.cell_model.specs.Book.{Book, Given, Run, order_of, run_through, is_ready_site, site_database}
use Rattle.cell_model.specs.KeptLaws.{IsPlaced}
use Rattle.cell_model.specs.Laws.{Grows}
use Rattle.cell_model.specs.Node.{Up, Server}
use Rattle.cell_model.specs.SingleCopy.{image_after}
use Rattle.cell_model.specs.World.{Site, Event, IsFirst, IsRun, first_world, world_after, member, site_of, happens}
use Rattle.cell_pages.specs.Images.{KeepsImages, IsImageOf}
use Rattle.cell_pages.specs.Laws.{run_of}
use Rattle.cell_pages.specs.WritesOnTheWay.{KeptIsWrite}
use Rattle.cell_orders.specs.Acknowledged.{FlightMade}
use Rattle.cell_orders.specs.Asked.{AnswersAsk}
use Rattle.cell_orders.specs.Kept.{versions_of, versions_in}
use Rattle.cell_orders.specs.Orders.{HasMajority, IsLast}
use Rattle.cell_orders.specs.Replies.{IsSingleReply, IsAtSync, HasEvaluation, PrefixesStay}

-- In each cell, after each run, the list of each announcement is a front of the list of each later one.
abbrev pub AnnouncementsGrow : Type 0
AnnouncementsGrow =
    (db : Database) (hosts : List Host) (clock : ℕ) (failed : List Bool) (events : List Event) →
    IsFirst hosts clock failed → IsRun db (first_world hosts clock failed) events → Grows (run_of db hosts clock failed events).announcements

-- In each cell, whatever happens later, each transaction that was acknowledged still is, and is in the order at its place.
abbrev pub AcknowledgedStay : Type 0
AcknowledgedStay =
    (db : Database) (hosts : List Host) (clock : ℕ) (failed : List Bool) (events more : List Event) →
    IsFirst hosts clock failed → IsRun db (first_world hosts clock failed) events →
    IsRun db (world_after db (first_world hosts clock failed) events) more →
    let r = run_of db hosts clock failed events in
    let later = run_through db r more in
    All (λ a. Contains later.acknowledged a × IsPlaced (order_of later.announcements) a) r.acknowledged

-- In each cell, after each run, each server of some majority, in whatever state, has a durable version of at least the last announced one.
abbrev pub MajoritiesKeep : Type 0
MajoritiesKeep =
    (db : Database) (hosts : List Host) (clock : ℕ) (failed : List Bool) (events : List Event) →
    IsFirst hosts clock failed → IsRun db (first_world hosts clock failed) events →
    let r = run_of db hosts clock failed events in
    HasMajority (length r.world.hosts) (versions_of r.world) (versions_in r.announcements)

-- A ready sync site: its announced version is the last one, and its database, where the database keeps its images, is the image of the
-- single copy after the order. While a write is in flight that is the one before it.
pub record ServesOrder (db : Database) (r : Run) (s : Server) : Type 0 where
  pub last : (poll : Polled) (spread : Spread) (announced : Version) → s.phase ≡ Ready poll spread announced →
      IsLast (versions_in r.announcements) announced
  pub database : KeepsImages db → site_database s ≡ image_after db (order_of r.announcements)

-- In each cell, after each run, so of each ready sync site.
abbrev pub SitesServeTheOrder : Type 0
SitesServeTheOrder =
    (db : Database) (hosts : List Host) (clock : ℕ) (failed : List Bool) (events : List Event) →
    IsFirst hosts clock failed → IsRun db (first_world hosts clock failed) events →
    let r = run_of db hosts clock failed events in
    (k : ℕ) (site : Site) (s : Server) → site_of r.world k ≡ Some site → site.node ≡ Up s →
    is_ready_site (member r.world k) site.clock (Up s) ≡ true → ServesOrder db r s

-- In each cell, after each run, each reply that a database gave is that of the single copy after a front of the order.
abbrev pub RepliesAreSingle : Type 0
RepliesAreSingle =
    (db : Database) (hosts : List Host) (clock : ℕ) (failed : List Bool) (events : List Event) →
    IsFirst hosts clock failed → IsRun db (first_world hosts clock failed) events →
    let r = run_of db hosts clock failed events in
    All (IsSingleReply db r.book (order_of r.announcements)) r.given

-- In each cell, in the next event after each run, each Ok and each Rule is a reply that a database gave.
abbrev pub RepliesAreGiven : Type 0
RepliesAreGiven =
    (db : Database) (hosts : List Host) (clock : ℕ) (failed : List Bool) (events : List Event) (e : Event) →
    IsFirst hosts clock failed → IsRun db (first_world hosts clock failed) events →
    All HasEvaluation (happens db (run_of db hosts clock failed events).world e).seen

-- In each cell, whatever happens later, each reply that is given later at the sync site was evaluated on an order in which all that was
-- acknowledged by now has its place.
abbrev pub RepliesHaveAcknowledged : Type 0
RepliesHaveAcknowledged =
    (db : Database) (hosts : List Host) (clock : ℕ) (failed : List Bool) (events more : List Event) →
    IsFirst hosts clock failed → IsRun db (first_world hosts clock failed) events →
    IsRun db (world_after db (first_world hosts clock failed) events) more →
    let r = run_of db hosts clock failed events in
    let later = run_through db r more in
    (new : List Given) × (later.given ≡ new ++ r.given)
    × All (λ (g : Given). IsAtSync g.evaluation.basis → All (IsPlaced g.order) r.acknowledged) new

-- In each cell, after each run, the list from which a server gave a reply is a front of that of each later reply of its own.
abbrev pub RepliesGrow : Type 0
RepliesGrow =
    (db : Database) (hosts : List Host) (clock : ℕ) (failed : List Bool) (events : List Event) →
    IsFirst hosts clock failed → IsRun db (first_world hosts clock failed) events →
    let r = run_of db hosts clock failed events in PrefixesStay r.book r.given

-- In each cell, after each run, each reply that a database gave is to a call that was asked at its server, under its id.
abbrev pub RepliesAnswerAsks : Type 0
RepliesAnswerAsks =
    (db : Database) (hosts : List Host) (clock : ℕ) (failed : List Bool) (events : List Event) →
    IsFirst hosts clock failed → IsRun db (first_world hosts clock failed) events →
    All (AnswersAsk events) (run_of db hosts clock failed events).given

-- The writes of a server that is up: that in flight was evaluated on the image of the announced version, and made the own one; and what it
-- keeps of another server is a write on its own version.
pub record HasMadeWrites (db : Database) (book : Book) (s : Server) : Type 0 where
  pub image : IsImageOf db book s.version s.image
  pub flight : FlightMade db book s.version s.phase s.flight
  pub kept : KeptIsWrite db book s.version s.kept

-- In each cell, after each run, so of each server that is up.
abbrev pub WritesAreMade : Type 0
WritesAreMade =
    (db : Database) (hosts : List Host) (clock : ℕ) (failed : List Bool) (events : List Event) →
    IsFirst hosts clock failed → IsRun db (first_world hosts clock failed) events →
    let r = run_of db hosts clock failed events in
    (k : ℕ) (site : Site) (s : Server) → site_of r.world k ≡ Some site → site.node ≡ Up s → HasMadeWrites db r.book s
