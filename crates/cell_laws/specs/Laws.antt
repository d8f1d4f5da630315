-- Laws of cells of every size.
use Rattle.std.specs.Prelude.{◌≡◌, ℕ, ◌<◌, Bool, true, None, List, [], ◌∷◌, map, IsSomeAnd}
use Rattle.db_image.specs.Database.{Database}
use Rattle.ubik_types.specs.declared.hosts.Host.{Host}
use Rattle.ubik_types.specs.Version.{zero_version}
use Rattle.lease_model.specs.Rules.{cell_rules}
use Rattle.lease_model.specs.Runs as leases
use Rattle.cell_model.specs.Book.{Book, first_run, run_through, is_leased_node}
use Rattle.cell_model.specs.World.{World, Event, IsFirst, IsRun, first_world, world_after, member, site_of}
use Rattle.cell_laws.specs.View.{view}

-- server k is in lease: it is up, or halted, and counts the votes of a quorum
abbrev pub IsInLease : World → ℕ → Type 0
IsInLease w k = IsSomeAnd (site_of w k) (λ site. is_leased_node (member w k) site.clock site.node ≡ true)

-- In each cell, after each run, at most one server is in lease.
abbrev pub LeasesExclude : Type 0
LeasesExclude =
    (db : Database) (hosts : List Host) (clock : ℕ) (failed : List Bool) (events : List Event) →
    IsFirst hosts clock failed → IsRun db (first_world hosts clock failed) events →
    let w = world_after db (first_world hosts clock failed) events in
    (h k : ℕ) → IsInLease w h → IsInLease w k → h ≡ k

-- the first version, and each version in the book, is of an epoch below this one
abbrev pub AllBelow : ℕ → Book → Type 0
AllBelow epoch [] = zero_version.epoch < epoch
AllBelow epoch (newest ∷ book) = (newest.version.epoch < epoch) × AllBelow epoch book

-- a book, the newest version first: the epoch of each relabelling is above that of every version before it
abbrev pub Rises : Book → Type 0
Rises [] = Unit {0}
Rises (newest ∷ book) = (newest.transaction ≡ None → AllBelow newest.version.epoch book) × Rises book

-- In each cell, after each run, the epoch of each relabelling is above every epoch in the book before it.
abbrev pub EpochsRise : Type 0
EpochsRise =
    (db : Database) (hosts : List Host) (clock : ℕ) (failed : List Bool) (events : List Event) →
    IsFirst hosts clock failed → IsRun db (first_world hosts clock failed) events →
    Rises (run_through db (first_run (first_world hosts clock failed)) events).book

-- Each run of a cell is one of the model of leases, by the rules of a cell: its servers look alike.
abbrev pub CellsKeepLeases : Type 0
CellsKeepLeases =
    (db : Database) (hosts : List Host) (clock : ℕ) (failed : List Bool) (events : List Event) →
    IsFirst hosts clock failed → IsRun db (first_world hosts clock failed) events →
    (moves : List leases.Event) × leases.IsRun cell_rules (leases.first cell_rules clock failed) moves
    × ((leases.after_all cell_rules (leases.first cell_rules clock failed) moves).servers
    ≡ map view (world_after db (first_world hosts clock failed) events).sites)
