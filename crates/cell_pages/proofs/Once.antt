-- After each run of each cell each version was made once; so a version that has a list keeps it.
use Rattle.std.proofs.Common.{length, Bool, true, false, cond, ◌≡◌, ℕ, List, [], ◌∷◌, refl, sym, ap, subst, ◌∙◌}
use Rattle.std.specs.Prelude.{Some, None}
use Rattle.ubik_types.specs.declared.hosts.Host.{Host}
use Rattle.ubik_types.specs.declared.versions.Version.{Version}
use Rattle.ubik_types.specs.Version.{version_eq, zero_version}
use Rattle.db_image.specs.Database.{Database}
use Rattle.lease_model.specs.Rules.{AreSafe, cell_rules}
use Rattle.lease_model.specs.Runs as runs
use Rattle.cell_model.specs.Book.{Book, list_of, first_run}
use Rattle.cell_model.specs.Durable.{Transaction}
use Rattle.cell_model.specs.World.{World, Event, IsFirst, IsRun, first_world}
use Rattle.cell_laws.proofs.Cells.{first_good, run_good, same_world}
use Rattle.cell_pages.specs.Growth.{Grew}
use Rattle.cell_pages.specs.Laws.{run_of, IsNew, MadeOnce, VersionsAreMadeOnce, KeepsLists, ListsStay}
use Rattle.cell_pages.specs.Pages.{VersionsRise, AllRise, LeadersAreAhead}
use Rattle.cell_pages.specs.Parts.{MakerWentOn, MakesVersions}
use Rattle.cell_pages.specs.Passes.{Pass, NodeKeeps, WorldKeeps}
use Rattle.cell_pages.proofs.Leading.{grew_keeps}
use Rattle.cell_pages.proofs.Making.{once_grew, rise_grew, makes_pass}
use Rattle.cell_pages.proofs.Runs.{along, first_keeps}
use Rattle.cell_pages.proofs.Versions.{same_of_eq}

abbrev pub Keeps : (Book → Type 0) → World → Book → Type 0
Keeps B w book = WorldKeeps MakesVersions MakerWentOn (λ book b. Unit {0}) B w book

-- a version that is new has no list
no_list : (new : Version) (book : Book) (list : List Transaction) → IsNew new book → list_of book new ≡ Some list → ⊥
no_list new [] list is_new listed = none (version_eq zero_version new) refl listed
  where
    none : (t : Bool) → version_eq zero_version new ≡ t → cond t (Some []) None ≡ Some list → ⊥
    none true same is = is_new (sym (same_of_eq zero_version new same))
    none false same is = absurd (cc)
no_list new (b ∷ book) list is_new listed = first (version_eq b.version new) refl (no_list new book list is_new.1) listed
  where
    first : (t : Bool) → version_eq b.version new ≡ t → (list_of book new ≡ Some list → ⊥) →
        cond t (Some b.transactions) (list_of book new) ≡ Some list → ⊥
    first true same rest is = is_new.0 (sym (same_of_eq b.version new same))
    first false same rest is = rest is

pub differs : (v new : Version) (book : Book) (list : List Transaction) → IsNew new book → list_of book v ≡ Some list → version_eq new v ≡ false
differs v new book list is_new listed = by (version_eq new v) refl
  where
    by : (t : Bool) → version_eq new v ≡ t → version_eq new v ≡ false
    by true same =
        absurd (no_list new book list is_new (subst (λ (u : Version). list_of book u ≡ Some list) (sym (same_of_eq new v same)) listed))
    by false same = same

pub lists_kept : (lease : Bool) (k : ℕ) (book later : Book) → Grew lease k book later → KeepsLists book later
lists_kept lease k book later grew =
    grew_keeps lease k (λ g. KeepsLists book g)
    (λ g b next keeps v list is.
    let old : list_of g v ≡ Some list = keeps v list is in
    ap (λ (t : Bool). cond t (Some b.transactions) (list_of g v)) (differs v b.version g list next.new old) ∙ old) book later grew
    (λ v list is. is)

-- versions are made once, and rise
abbrev pub OnceAndRising : Book → Type 0
OnceAndRising book = MadeOnce book × VersionsRise book

pub both_grew : (lease : Bool) (k : ℕ) (book later : Book) → Grew lease k book later → OnceAndRising book → OnceAndRising later
both_grew lease k book later grew is = (once_grew lease k book later grew is.0, rise_grew lease k book later grew is.1)

module _ (safe : AreSafe cell_rules) where
  abbrev Made : Database → (B : Book → Type 0) → Type 0
  Made db B = Pass db MakesVersions MakerWentOn (λ book b. Unit {0}) B

  -- the first world, and so each later one
  pub begun : (db : Database) (hosts : List Host) (clock : ℕ) (failed : List Bool) (events : List Event) → IsFirst hosts clock failed →
      IsRun db (first_world hosts clock failed) events →
      Keeps OnceAndRising (run_of db hosts clock failed events).world (run_of db hosts clock failed events).book
  begun db hosts clock failed events first run =
      along db MakesVersions MakerWentOn (λ book b. Unit {0}) OnceAndRising (makes_pass db OnceAndRising both_grew) safe
      (first_run (first_world hosts clock failed)) (runs.first cell_rules clock failed) events (first_good hosts clock failed first)
      (first_keeps db MakesVersions MakerWentOn (λ book b. Unit {0}) OnceAndRising (makes_pass db OnceAndRising both_grew)
      hosts clock failed (tt, tt)
      (λ k. tt)) run

  pub versions_are_made_once : VersionsAreMadeOnce
  versions_are_made_once db hosts clock failed events first run = (begun db hosts clock failed events first run).pages.0

  pub versions_rise : AllRise
  versions_rise db hosts clock failed events first run = (begun db hosts clock failed events first run).pages.1

  pub leaders_are_ahead : LeadersAreAhead
  leaders_are_ahead db hosts clock failed events first run k site s get is_up leased sending =
      let r = run_of db hosts clock failed events in
      (subst
      (NodeKeeps (λ lease. MakesVersions k lease r.book) (length r.world.hosts) site.clock site.durable) is_up
      ((begun db hosts clock failed events first run).sites k site get).node).1.greatest leased sending

  abbrev Since : Book → Book → Type 0
  Since old book = KeepsLists old book

  since : (db : Database) (old : Book) → Made db (Since old)
  since db old = makes_pass db (Since old)
      (λ lease k book later grew is v list at. lists_kept lease k book later grew v list (is v list at))

  pub lists_stay : ListsStay
  lists_stay db hosts clock failed events more first run then =
      let r = run_of db hosts clock failed events in
      let good = run_good safe db hosts clock failed events first run in
      let kept = begun db hosts clock failed events first run in
      (along db MakesVersions MakerWentOn (λ book b. Unit {0}) (Since r.book) (since db r.book) safe
      r (runs.after_all cell_rules (runs.first cell_rules clock failed) good.0) more good.2
      (record { pages = λ v list is. is; sites = kept.sites; packets = kept.packets })
      (subst (λ (w : World). IsRun db w more) (sym (same_world db (first_run (first_world hosts clock failed)) events)) then)).pages
