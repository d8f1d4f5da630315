-- What stands behind the writes of a server that is up, after each run.
use Rattle.std.proofs.Common.{◌≡◌, ℕ, Bool, true, List, [], ◌∷◌, refl, sym, subst}
use Rattle.std.specs.Prelude.{Option, Some, None}
use Rattle.ubik_types.specs.declared.hosts.Host.{Host}
use Rattle.ubik_types.specs.declared.versions.Version.{Version}
use Rattle.ubik_types.specs.Phase.{Polled, Spread, PhaseRecord, NoPhase, Poll, Fetch, Relabel, Send, Ready}
use Rattle.db_image.specs.Database.{Database}
use Rattle.db_image.specs.Standing.{Standing}
use Rattle.cell_model.specs.Book.{Book, Run}
use Rattle.cell_model.specs.Durable.{Transaction}
use Rattle.cell_model.specs.Node.{Flight, Server}
use Rattle.cell_model.specs.SingleCopy.{image_from}
use Rattle.cell_model.specs.Step.{is_ready}
use Rattle.cell_model.specs.Writes.{announced_image, image_before}
use Rattle.cell_orders.specs.Acknowledged.{FlightMade, IsFlown}
use Rattle.cell_orders.specs.Laws.{WritesAreMade}
use Rattle.cell_pages.specs.Images.{IsImageOf}
use Rattle.cell_pages.specs.Laws.{run_of}
use Rattle.cell_laws.proofs.Parts.{no}
use Rattle.recovery_laws.specs.Stands.{IsMeantImage, IsService}
use Rattle.flight_laws.specs.Flights.{HasWrites, WritesStand}
use Rattle.flight_laws.proofs.Kept.{kept_put}
use Rattle.flight_laws.proofs.Steps.{step_puts}

module _ (standing : Standing) (service : IsService standing) where
  -- what calls make of an image that stands, one after the other
  from_stands : (image : List ℕ) (list : List Transaction) → IsMeantImage standing image → IsMeantImage standing (image_from standing.database image list)
  from_stands image [] meant = meant
  from_stands image (t ∷ list) meant =
      from_stands (standing.database.call image t.moment t.call).image list (service.leads image t.moment t.call meant)

  of_version : (book : Book) (v : Version) (image : List ℕ) → IsImageOf standing.database book v image → IsMeantImage standing image
  of_version book v image is =
      subst (IsMeantImage standing) (sym (is.image_is service.keeps)) (from_stands [] is.list service.empty)

  -- the image before a write in flight is that of the announced version
  flown : (book : Book) (v : Version) (phase : PhaseRecord) (f : Flight) → is_ready phase ≡ true → IsFlown standing.database book v phase f →
      IsMeantImage standing f.old_image
  flown book v NoPhase f ready is = no ready
  flown book v (Poll poll) f ready is = no ready
  flown book v (Fetch poll best host) f ready is = no ready
  flown book v (Relabel poll) f ready is = no ready
  flown book v (Send poll spread) f ready is = no ready
  flown book v (Ready poll spread announced) f ready is = of_version book announced f.old_image is.1

  before : (book : Book) (s : Server) (o : Option Flight) → FlightMade standing.database book s.version s.phase o →
      IsImageOf standing.database book s.version s.image → IsMeantImage standing (image_before s.image o)
  before book s None made image = of_version book s.version s.image image
  before book s (Some f) made image = let is = made f refl in flown book s.version s.phase f is.0 is.2

pub writes_stand : WritesAreMade → (standing : Standing) → WritesStand standing
writes_stand made standing service hosts clock failed events first run k site s get up =
    let book : Book = (run_of standing.database hosts clock failed events).book in
    let is = made standing.database hosts clock failed events first run k site s get up in
    record {
      before = before standing service book s s.flight is.flight is.image;
      takes = λ m now e short.
          step_puts standing.database m now s e short
          (λ new changes whole. kept_put standing.database service.keeps book s.version new s.kept changes whole is.kept);
    }
