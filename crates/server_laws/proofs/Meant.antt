-- The images of a run stand for states, so each step of a server in it is that of the world, whatever may have come of its calls.
use Rattle.std.proofs.Common.{◌≡◌, ◌≢◌, List, [], ◌∷◌, refl, subst}
use Rattle.db_image.specs.Database.{Database}
use Rattle.db_image.specs.Standing.{Standing}
use Rattle.cell_model.specs.Book.{first_run, run_after, run_through, Run}
use Rattle.cell_model.specs.Evaluating.{KeepsStates}
use Rattle.cell_model.specs.Node.{Server}
use Rattle.cell_model.specs.World.{Event, first_world, world_after}
use Rattle.cell_model.specs.Writes.{announced_image}
use Rattle.cell_model.proofs.MeantSteps.{step_is_meant}
use Rattle.recovery_laws.specs.Stands.{ImagesStand, IsMeantImage, IsService}
use Rattle.flight_laws.specs.Flights.{WritesStand}
use Rattle.journal_model.specs.Standings.{each_image}
use Rattle.server_laws.specs.Laws.{AllMeant, AnyMakeAWorld, IsMeantAt, ServersMakeAWorld}
use Rattle.server_laws.proofs.Worlds.{makes_a_world}

-- where the images of a server stand for states
meant_by : (d : Standing) → KeepsStates d → (s : Server) → IsMeantImage d s.image → IsMeantImage d (announced_image s) → IsMeantAt d s
meant_by d keeps s own announced told may m now e short =
    step_is_meant d keeps told may m s now e short own.0 announced.0 own.1 announced.1

world_of : (db : Database) (r : Run) (events : List Event) → (run_through db r events).world ≡ world_after db r.world events
world_of db r [] = refl
world_of db r (e ∷ events) = world_of db (run_after db r e) events

-- a call leaves an image that stands, where it was made on one
keeps_states : (d : Standing) → IsService d → KeepsStates d
keeps_states d service image s now call stands = service.leads image now call (s, stands)

pub servers_make_a_world : (d : Standing) → (d.database.block ≢ 0 → IsService d) → ImagesStand d → WritesStand d → ServersMakeAWorld d
servers_make_a_world d is images writes block hosts clock failed first =
    let service = is block in
    let start = first_world hosts clock failed in
    makes_a_world d hosts clock failed
    (λ events run. subst (AllMeant d) (world_of d.database (first_run start) events)
    (λ k site s there up.
    meant_by d (keeps_states d service) s ((images service hosts clock failed events first run).0.up k site s there up)
    (writes service hosts clock failed events first run k site s there up).before))

pub any_make_a_world : AnyMakeAWorld
any_make_a_world db hosts clock failed =
    makes_a_world (each_image db) hosts clock failed
    (λ events run k site s there up.
    meant_by (each_image db) (λ image x now call stands. ((db.call image now call).image, refl)) s (s.image, refl) (announced_image s, refl))
