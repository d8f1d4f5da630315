-- Pages of the book: each version follows one that has a list, and versions rise (own).
use Rattle.std.specs.Prelude.{◌≡◌, ℕ, ◌<◌, Bool, true, Option, Some, None, List, [], ◌∷◌, ◌++◌}
use Rattle.db_image.specs.Database.{Database}
use Rattle.ubik_types.specs.declared.hosts.Host.{Host}
use Rattle.ubik_types.specs.declared.versions.Version.{Version}
use Rattle.ubik_types.specs.Version.{version_lt}
use Rattle.cell_model.specs.Book.{BookVersion, Book, list_of, run_through}
use Rattle.cell_model.specs.Durable.{Transaction}
use Rattle.cell_model.specs.Node.{Up, Server}
use Rattle.cell_model.specs.Receiver.{is_sending}
use Rattle.cell_model.specs.Step.{leased}
use Rattle.cell_model.specs.World.{Site, Event, IsFirst, IsRun, first_world, world_after, member, site_of}
use Rattle.cell_model.specs.Writes.{next_version}
use Rattle.cell_laws.specs.Invariant.{AllVersions}
use Rattle.cell_pages.specs.Laws.{run_of}
use Rattle.cell_pages.specs.Parts.{AtMost, IsGreatest}

-- each version of the book is below this one
abbrev pub IsAbove : Version → Book → Type 0
IsAbove v book = AllVersions (λ b. version_lt b.version v ≡ true) book

-- a book, the newest version first: each is above all before it
abbrev pub VersionsRise : Book → Type 0
VersionsRise [] = Unit {0}
VersionsRise (newest ∷ book) = IsAbove newest.version book × VersionsRise book

-- In each cell, after each run, each version in the book is above all before it.
abbrev pub AllRise : Type 0
AllRise =
    (db : Database) (hosts : List Host) (clock : ℕ) (failed : List Bool) (events : List Event) →
    IsFirst hosts clock failed → IsRun db (first_world hosts clock failed) events → VersionsRise (run_of db hosts clock failed events).book

-- In each cell, after each run, a server that is in lease and sends its database has a version that none in the book is above.
abbrev pub LeadersAreAhead : Type 0
LeadersAreAhead =
    (db : Database) (hosts : List Host) (clock : ℕ) (failed : List Bool) (events : List Event) →
    IsFirst hosts clock failed → IsRun db (first_world hosts clock failed) events →
    let r = run_of db hosts clock failed events in
    (k : ℕ) (site : Site) (s : Server) → site_of r.world k ≡ Some site → site.node ≡ Up s →
    leased (member r.world k) s site.clock ≡ true → is_sending s.phase ≡ true → IsGreatest s.version r.book

-- the transactions that a version adds to the one before it
abbrev pub taken : Option Transaction → List Transaction
taken None = []
taken (Some t) = t ∷ []

-- a relabelling begins a later epoch, a commit is the next counter
abbrev pub GoesOnFrom : Option Transaction → (before v : Version) → Type 0
GoesOnFrom None before v = (before.epoch < v.epoch) × (v.counter ≡ 1)
GoesOnFrom (Some t) before v = v ≡ next_version before

-- a version on one that has a list there: it goes on from that, and its list is that one and its transaction, if it has one
pub record IsPageOn (book : Book) (b : BookVersion) : Type 0 where
  pub list : List Transaction
  pub listed : list_of book b.before ≡ Some list
  pub list_is : b.transactions ≡ list ++ taken b.transaction
  pub goes_on : GoesOnFrom b.transaction b.before b.version

abbrev pub PagesFollow : Book → Type 0
PagesFollow [] = Unit {0}
PagesFollow (newest ∷ book) = IsPageOn book newest × PagesFollow book

-- In each cell, after each run, each version in the book goes on from one before it.
abbrev pub ListsGoOn : Type 0
ListsGoOn =
    (db : Database) (hosts : List Host) (clock : ℕ) (failed : List Bool) (events : List Event) →
    IsFirst hosts clock failed → IsRun db (first_world hosts clock failed) events → PagesFollow (run_of db hosts clock failed events).book

-- In each cell the durable version of a server is later no less than it was, whatever happens to it.
abbrev pub VersionsNeverFall : Type 0
VersionsNeverFall =
    (db : Database) (hosts : List Host) (clock : ℕ) (failed : List Bool) (events more : List Event) →
    IsFirst hosts clock failed → IsRun db (first_world hosts clock failed) events →
    IsRun db (world_after db (first_world hosts clock failed) events) more →
    let r = run_of db hosts clock failed events in
    (k : ℕ) (before after : Site) → site_of r.world k ≡ Some before → site_of (run_through db r more).world k ≡ Some after →
    AtMost before.durable.version after.durable.version
