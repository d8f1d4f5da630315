-- Laws of the world.
use Rattle.std.specs.Prelude.{◌≡◌, ℕ, Bool, List, [], ◌∷◌, ◌++◌}
use Rattle.db_image.specs.Database.{Database}
use Rattle.ubik_types.specs.declared.hosts.Host.{Host}
use Rattle.cell_model.specs.Book.{Announcement, Run, first_run, run_through}
use Rattle.cell_model.specs.Durable.{Durable, Transaction, durable}
use Rattle.cell_model.specs.Node.{Node, Down, Halted, Up}
use Rattle.cell_model.specs.World.{Site, Event, first_world, world_after}

-- a server that is up, and not halted, has the version and the image of this durable state
abbrev pub IsOf : Durable → Node → Type 0
IsOf d Down = Unit {0}
IsOf d (Halted h) = Unit {0}
IsOf d (Up s) = d ≡ durable s.version s.image

-- so of each of these sites
abbrev pub AllDurable : List Site → Type 0
AllDurable [] = Unit {0}
AllDurable (site ∷ sites) = IsOf site.durable site.node × AllDurable sites

-- In each cell, whatever happens, the durable state of each server that is up, and not halted, is its version and its image.
abbrev pub DatabaseIsDurable : Type 0
DatabaseIsDurable =
    (db : Database) (hosts : List Host) (clock : ℕ) (failed : List Bool) (events : List Event) →
    AllDurable (world_after db (first_world hosts clock failed) events).sites

-- the run of a cell of one server through these events, from its opening on
abbrev pub run_of_one : Database → Host → ℕ → Bool → List Event → Run
run_of_one db host clock failed events =
    run_through db (first_run (first_world (host ∷ []) clock (failed ∷ []))) events

-- one list is the front of another
abbrev pub Begins : List Transaction → List Transaction → Type 0
Begins front whole = (rest : List Transaction) × (whole ≡ front ++ rest)

-- the list of each of these announcements is a front of this list
abbrev pub AllBegin : List Announcement → List Transaction → Type 0
AllBegin [] whole = Unit {0}
AllBegin (a ∷ announcements) whole = Begins a.transactions whole × AllBegin announcements whole

-- announcements, the newest first: the list of each is a front of the list of each later one
abbrev pub Grows : List Announcement → Type 0
Grows [] = Unit {0}
Grows (newest ∷ earlier) = AllBegin earlier newest.transactions × Grows earlier

-- In a cell of one server, whatever happens, announced transactions have one order, which only grows.
abbrev pub AnnouncementsGrow : Type 0
AnnouncementsGrow =
    (db : Database) (host : Host) (clock : ℕ) (failed : Bool) (events : List Event) →
    Grows (run_of_one db host clock failed events).announcements
