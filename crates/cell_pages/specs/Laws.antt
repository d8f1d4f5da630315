-- What a version stands for, in cells of every size (own).
use Rattle.std.specs.Prelude.{◌≡◌, ℕ, Bool, Some, List, [], ◌∷◌}
use Rattle.db_image.specs.Database.{Database}
use Rattle.ubik_types.specs.declared.hosts.Host.{Host}
use Rattle.ubik_types.specs.declared.versions.Version.{Version}
use Rattle.ubik_types.specs.Version.{zero_version}
use Rattle.cell_model.specs.Book.{Book, Run, list_of, first_run, run_through}
use Rattle.cell_model.specs.Durable.{Transaction}
use Rattle.cell_model.specs.World.{Event, IsFirst, IsRun, first_world, world_after}

-- the run of a cell through these events, from its opening on
abbrev pub run_of : Database → List Host → ℕ → List Bool → List Event → Run
run_of db hosts clock failed events = run_through db (first_run (first_world hosts clock failed)) events

-- the version is none of those in the book, and not the first one
abbrev pub IsNew : Version → Book → Type 0
IsNew v [] = v ≡ zero_version → ⊥
IsNew v (newest ∷ book) = (v ≡ newest.version → ⊥) × IsNew v book

-- a book, the newest version first: each is another one than all before it
abbrev pub MadeOnce : Book → Type 0
MadeOnce [] = Unit {0}
MadeOnce (newest ∷ book) = IsNew newest.version book × MadeOnce book

-- In each cell, after each run, each version in the book was made once.
abbrev pub VersionsAreMadeOnce : Type 0
VersionsAreMadeOnce =
    (db : Database) (hosts : List Host) (clock : ℕ) (failed : List Bool) (events : List Event) →
    IsFirst hosts clock failed → IsRun db (first_world hosts clock failed) events → MadeOnce (run_of db hosts clock failed events).book

-- a version that has a list in one book has the same in a later one
abbrev pub KeepsLists : Book → Book → Type 0
KeepsLists book later = (v : Version) (list : List Transaction) → list_of book v ≡ Some list → list_of later v ≡ Some list

-- In each cell a version that has a list keeps it, whatever happens later.
abbrev pub ListsStay : Type 0
ListsStay =
    (db : Database) (hosts : List Host) (clock : ℕ) (failed : List Bool) (events more : List Event) →
    IsFirst hosts clock failed → IsRun db (first_world hosts clock failed) events →
    IsRun db (world_after db (first_world hosts clock failed) events) more →
    let r = run_of db hosts clock failed events in
    KeepsLists r.book (run_through db r more).book
