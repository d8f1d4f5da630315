-- A durable call of a store: what it makes, what a crash leaves of it, and how it may end otherwise (own).
use Rattle.std.specs.Prelude.{◌≡◌, ◌+◌, ℕ, true, false, List, None, IfSome}
use Rattle.std.specs.Option.{option_map}
use Rattle.ubik_types.specs.declared.images.Change.{Change}
use Rattle.ubik_types.specs.declared.versions.Version.{Version}
use Rattle.ubik_types.specs.Version.{version_lt}
use Rattle.disk_base.specs.declared.disks.Disk.{Ghosts}
use Rattle.disk_base.specs.Crash.{LeavesOnly, RisesAtMost}
use Rattle.disk_base.specs.Runs.{OnlyReads}
use Rattle.page_file.specs.Pages.{image_of}
use Rattle.ubik_store.specs.declared.faults.StoreFault.{StoreFault}
use Rattle.ubik_store.specs.declared.faults.StoreFault.TheVariants.{DiskFault, BadLabel, TooLarge, NotNewer, NoMemory}
use Rattle.ubik_store.specs.declared.stores.Store.{Store}
use Rattle.ubik_store.specs.Calls.{CallsAtMost}
use Rattle.ubik_store.specs.Files.{StandsForEither}
use Rattle.ubik_store.specs.Gaps.{IsPlain}
use Rattle.ubik_store.specs.Rest.{CanRelabel, HasNoLog}
use Rattle.ubik_store.specs.Rewrite.{Rewrite, rewritten, len_rewritten, rewrite_calls, most_calls, KeepsPuts, IsUnlogged}
use Rattle.ubik_store.specs.Rewrite.Rewrite.{Changed}
use Rattle.ubik_store.specs.Store.{StaysAsItWas, image_in}

-- The image was rewritten, under this version, which is newer, in so many changing calls of the disk. There is room for a relabelling.
pub record Rewrites {D : Type 0} (g : Ghosts D) (rewrite : Rewrite) (v : Version) (old new : Store D) : Type 0 where
  pub newer : version_lt old.version v ≡ true
  pub version : new.version ≡ v
  pub len : new.len ≡ len_rewritten rewrite old.len
  pub image : image_in (g.files new.disk) ≡ option_map (rewritten rewrite) (image_in (g.files old.disk))
  pub begun : new.begun ≡ None
  pub failed : new.failed ≡ false
  pub steps : IfSome (g.files old.disk) (λ fs. g.steps new.disk ≡ g.steps old.disk + rewrite_calls rewrite fs.database)
  pub room : CanRelabel g new.disk

-- these changes were made
abbrev pub Commits : {D : Type 0} → Ghosts D → List Change → Version → (old new : Store D) → Type 0
Commits g changes v old new = Rewrites g (Changed changes) v old new

-- nothing changed, but room may have been made
pub record Refuses {D : Type 0} (g : Ghosts D) (old new : Store D) : Type 0 where
  pub store : StaysAsItWas old new
  pub disk : OnlyReads g old.disk new.disk ⊥

-- the store has failed, and tells version and length from before
pub record HasFailed {D : Type 0} (old new : Store D) : Type 0 where
  pub version : new.version ≡ old.version
  pub len : new.len ≡ old.len
  pub failed : new.failed ≡ true

-- the version that was given is not newer than the store's own
pub record IsNotNewer {D : Type 0} (s : Store D) (v own given : Version) : Type 0 where
  pub own_is : own ≡ s.version
  pub given_is : given ≡ v
  pub not_newer : version_lt s.version v ≡ false

-- how a durable call that was not done ended; `long` says that an image of so many bytes is too long
abbrev pub EndsAs : {D : Type 0} (g : Ghosts D) (long : ℕ → Type 0) (v : Version) (old new : Store D) → StoreFault → Type 0
EndsAs g long v old new DiskFault = HasFailed old new
EndsAs g long v old new (BadLabel len head) = ⊥
EndsAs g long v old new (TooLarge bytes) = long bytes × Refuses g old new
EndsAs g long v old new (NotNewer own given) = IsNotNewer old v own given × Refuses g old new
EndsAs g long v old new NoMemory = (version_lt old.version v ≡ true) × Refuses g old new

-- no image is too long: for calls that bring none
abbrev pub IsNeverLong : ℕ → Type 0
IsNeverLong bytes = ⊥

-- Of a store that had not failed: at each moment of the call a crash leaves files that stand for the version and image before it or for
-- those after it, and plain files stay plain; no log, where it does not go through it. It makes no more changing calls than one that is
-- done.
pub record IsDurableIn {D : Type 0} (g : Ghosts D) (rewrite : Rewrite) (v : Version) (old new : Store D) (failed : Type 0) : Type 0 where
  pub moments : IfSome (g.files old.disk) (λ fs. LeavesOnly g.steps g.left_since old.disk new.disk
      (StandsForEither old.version (image_of fs.database) v (rewritten rewrite (image_of fs.database))))
  pub plain : KeepsPuts rewrite → IfSome (g.files old.disk) (λ fs. IsPlain fs → LeavesOnly g.steps g.left_since old.disk new.disk IsPlain)
  pub log : IsUnlogged rewrite → IfSome (g.files old.disk) (λ _. LeavesOnly g.steps g.left_since old.disk new.disk HasNoLog)
  pub few : IfSome (g.files old.disk) (λ fs. RisesAtMost (rewrite_calls rewrite fs.database) (g.steps old.disk) (g.steps new.disk))
  pub calls : CallsAtMost g (most_calls rewrite) old.disk new.disk failed

-- so of changes
abbrev pub IsDurable : {D : Type 0} → Ghosts D → List Change → Version → (old new : Store D) → (failed : Type 0) → Type 0
IsDurable g changes v old new failed = IsDurableIn g (Changed changes) v old new failed
