-- Images stand for states of the database along each run, and within each step.
use Rattle.std.proofs.Common.{Bool, true, false, not, ◌&&◌, ◌≡◌, ℕ, zero, suc, List, [], ◌∷◌, ◌++◌, refl, sym, ap, subst, ◌∙◌}
use Rattle.std.specs.Prelude.{Some, set, slice_get}
use Rattle.ubik_types.specs.declared.hosts.Host.{Host}
use Rattle.ubik_types.specs.declared.versions.Version.{Version}
use Rattle.ubik_calls.specs.declared.packets.Body.{Body}
use Rattle.ubik_calls.specs.declared.packets.Body.TheVariants as body
use Rattle.ubik_calls.specs.declared.packets.Packet.{Packet}
use Rattle.db_image.specs.Database.{Database}
use Rattle.db_image.specs.Standing.{Standing}
use Rattle.cell_model.specs.declared.events.NodeEvent.{NodeEvent}
use Rattle.cell_model.specs.Book.{Book, Run, first_run, run_after, run_through}
use Rattle.cell_model.specs.Durable.{Transaction}
use Rattle.cell_model.specs.Node.{Node, Up, Server}
use Rattle.cell_model.specs.SingleCopy.{image_from}
use Rattle.cell_model.specs.World.{World, Site, Trigger, Event, Stop, Happened, SiteHappened, happened_at, happens_at, stop_at}
use Rattle.cell_model.specs.World.{member, site_of, triggered, happens, is_down, is_new_ask, holds_at, occurs, may_stop, IsEvent, world_after}
use Rattle.cell_model.specs.World.{IsFirst, IsRun, first_world}
use Rattle.cell_pages.specs.Images.{IsImageOf}
use Rattle.cell_pages.specs.Laws.{run_of}
use Rattle.cell_pages.specs.OneLabel.{IsSentOf, HasOneLabel, OneLabel}
use Rattle.cell_pages.specs.Says.{AllPackets}
use Rattle.recovery_laws.specs.Stands.{IsMeantImage, IsService, CarriesMeant, AllStand, IsNextStep, StandsWithin, ImagesStand}

-- ---- runs

-- a run goes on with an event of the world that it leaves
runs_on : (db : Database) (w : World) (events : List Event) (e : Event) → IsRun db w events → IsEvent (world_after db w events) e →
    IsRun db w (events ++ e ∷ [])
runs_on db w [] e run is = (is, tt)
runs_on db w (first ∷ events) e run is = (run.0, runs_on db (happens db w first).world events e run.1 is)

through_more : (db : Database) (r : Run) (events : List Event) (e : Event) →
    run_through db r (events ++ e ∷ []) ≡ run_after db (run_through db r events) e
through_more db r [] e = refl
through_more db r (first ∷ events) e = through_more db (run_after db r first) events e

world_of : (db : Database) (r : Run) (events : List Event) → (run_through db r events).world ≡ world_after db r.world events
world_of db r [] = refl
world_of db r (first ∷ events) = world_of db (run_after db r first) events

-- what stands at a place where it was put
set_there : (sites : List Site) (k : ℕ) (new old : Site) → slice_get sites k ≡ Some old → slice_get (set sites k new) k ≡ Some new
set_there [] k new old is = absurd (cc)
set_there (a ∷ sites) zero new old is = refl
set_there (a ∷ sites) (suc k) new old is = set_there sites k new old is

both : (a b : Bool) → a ≡ true → b ≡ true → (a && b) ≡ true
both true b first second = second
both false b first second = first

-- ---- images

module _ (standing : Standing) (service : IsService standing) where
  abbrev db : Database
  db = standing.database

  -- what calls make of an image that stands, one after the other
  from_stands : (image : List ℕ) (list : List Transaction) → IsMeantImage standing image → IsMeantImage standing (image_from db image list)
  from_stands image [] meant = meant
  from_stands image (t ∷ list) meant =
      from_stands (db.call image t.moment t.call).image list (service.leads image t.moment t.call meant)

  of_version : (book : Book) (v : Version) (image : List ℕ) → IsImageOf db book v image → IsMeantImage standing image
  of_version book v image is =
      subst (IsMeantImage standing) (sym (is.image_is service.keeps)) (from_stands [] is.list service.empty)

  carries : (book : Book) (b : Body) → IsSentOf db book b → CarriesMeant standing book b
  carries book (body.Piece poll version total offset bytes) is = record { piece = is; meant = of_version book version is.image is.of }
  carries book (body.SendPiece poll version total offset bytes) is = record { piece = is; meant = of_version book version is.image is.of }
  carries book _ is = tt

  all_carry : (book : Book) (packets : List Packet) → AllPackets (IsSentOf db book) packets → AllPackets (CarriesMeant standing book) packets
  all_carry book [] all = tt
  all_carry book (p ∷ packets) all = (carries book p.body all.0, all_carry book packets all.1)

  all_stand : (r : Run) → HasOneLabel db r → AllStand standing r
  all_stand r label = record {
    durable = λ k site get. of_version r.book site.durable.version site.durable.image (label.durable k site get);
    up = λ k site s get is_up. of_version r.book s.version s.image (label.up k site s get is_up);
    sent = all_carry r.book r.world.packets label.sent;
  }

  -- ---- within a step

  module _ (w : World) (trigger : Trigger) (k : ℕ) (e : NodeEvent) (site : Site) (s : Server) (next : IsNextStep w trigger k e site s)
      (short : List Bool) (made : ℕ) where
    abbrev stop : Event
    stop = Stop trigger short made

    abbrev stopped : SiteHappened
    stopped = stop_at db (member w k) e short made site (Up s)

    stop_event : IsEvent w stop
    stop_event =
        ap (occurs w may_stop) next.brought ∙ ap (holds_at (may_stop e)) next.there
        ∙ both (not (is_down site.node)) (is_new_ask site.asked e) (ap (λ (node : Node). not (is_down node)) next.up) next.new

    stop_happens : happens db w stop ≡ happened_at w k stopped
    stop_happens =
        ap (triggered w (λ m e site. stop_at db m e short made site site.node)) next.brought
        ∙ ap (happens_at w k (λ site. stop_at db (member w k) e short made site site.node)) next.there
        ∙ ap (λ (node : Node). happened_at w k (stop_at db (member w k) e short made site node)) next.up

    stop_site : site_of (happens db w stop).world k ≡ Some stopped.site
    stop_site = ap (λ (x : Happened). site_of x.world k) stop_happens ∙ set_there w.sites k stopped.site site next.there

  -- a run that goes on with the stop has one label too
  stands_within : (r : Run) → ((e : Event) → IsEvent r.world e → HasOneLabel db (run_after db r e)) → StandsWithin standing r.world
  stands_within r label trigger k e site s short made next =
      let stop : Event = Stop trigger short made in
      let after : Run = run_after db r stop in
      let last : Site = (stop_at db (member r.world k) e short made site (Up s)).site in
      of_version after.book last.durable.version last.durable.image
      ((label stop (stop_event r.world trigger k e site s next short made)).durable k last
      (stop_site r.world trigger k e site s next short made))

-- a run that goes on has one label too
label_later : OneLabel → (db : Database) (hosts : List Host) (clock : ℕ) (failed : List Bool) (events : List Event) →
    IsFirst hosts clock failed → IsRun db (first_world hosts clock failed) events → (e : Event) →
    IsEvent (run_of db hosts clock failed events).world e → HasOneLabel db (run_after db (run_of db hosts clock failed events) e)
label_later one_label db hosts clock failed events first run e is =
    let w : World = first_world hosts clock failed in
    subst (HasOneLabel db) (through_more db (first_run w) events e)
    (one_label db hosts clock failed (events ++ e ∷ []) first
    (runs_on db w events e run (subst (λ (w : World). IsEvent w e) (world_of db (first_run w) events) is)))

pub images_stand : OneLabel → (standing : Standing) → ImagesStand standing
images_stand one_label standing service hosts clock failed events first run =
    let r : Run = run_of standing.database hosts clock failed events in (
      all_stand standing service r (one_label standing.database hosts clock failed events first run),
      stands_within standing service r (label_later one_label standing.database hosts clock failed events first run),
    )
