-- What an opening of files does: how many changing calls it makes, and why it refuses (own).
use Rattle.std.specs.Prelude.{◌≡◌, ℕ, ◌+◌, ◌≤◌, List, length, take, Option, Some, None, IfSome}
use Rattle.ubik_types.specs.declared.images.Change.{Change}
use Rattle.ubik_types.specs.declared.versions.Version.{Version}
use Rattle.ubik_types.specs.declared.limits.TheConstants.{MAX_IMAGE}
use Rattle.ubik_types.specs.Logged.{logged}
use Rattle.ubik_types.specs.Version.{IsVersion}
use Rattle.disk_base.specs.declared.disks.Disk.{Ghosts}
use Rattle.disk_base.specs.Crash.{LeavesOnly, IsSettled, RisesAtMost}
use Rattle.disk_base.specs.Files.{Files}
use Rattle.disk_base.specs.Stops.{IsStopped}
use Rattle.page_file.specs.Label.{IsHeadOf}
use Rattle.page_file.specs.Pages.{Known, AgreesIn, image_of}
use Rattle.ubik_log.specs.LogGrammar.{IsCommitted, IsDiscarded, new_record}
use Rattle.incoming_file.specs.Incoming.{IsIncoming, IsIgnored, clear_calls}
use Rattle.ubik_store.specs.declared.faults.StoreFault.{StoreFault}
use Rattle.ubik_store.specs.declared.faults.StoreFault.TheVariants.{DiskFault, BadLabel, TooLarge, NotNewer, NoMemory}
use Rattle.ubik_store.specs.Calls.{CallsAtMost}
use Rattle.ubik_store.specs.Files.{StandsFor}
use Rattle.ubik_store.specs.Gaps.{IsGapless, IsPlain}
use Rattle.ubik_store.specs.Moments.{head_calls}
use Rattle.ubik_store.specs.Rest.{EndedAs, RestsAs}

-- how many changing calls the log of these files asks for, by cases
pub data EndsLogIn : Files → ℕ → Type 0 where
  -- a committed log: its changes as they are made over the image that stands there, two syncs and the label, and the end of the log
  redoes : (fs : Files) (changes : List Change) (version : Version) → IsCommitted fs.log changes version
      → EndsLogIn fs (7 + length (logged (length (image_of fs.database)) changes) + head_calls fs.database)
  -- a discarded log that begins with LOGNEW: its gate is closed, and it is cut to nothing, and both is synced
  closes : (fs : Files) → IsDiscarded fs.log → take 4 fs.log ≡ new_record → EndsLogIn fs 4
  -- any other, an empty one too: it is cut to nothing, and synced
  cuts : (fs : Files) → IsDiscarded fs.log → ¬ (take 4 fs.log ≡ new_record) → EndsLogIn fs 2

-- how many an opening of these files makes, by cases
pub data OpensIn : Files → ℕ → Type 0 where
  -- an open incoming file: the log is emptied, the database file is cut and written, and all is synced; then the incoming file's gate is
  -- closed, and it is emptied
  takes : (fs : Files) (version : Version) (image : List ℕ) → IsIncoming fs.incoming version image → OpensIn fs 9
  -- none: what the log asks for, and one that has bytes is emptied
  treats : (fs : Files) (calls : ℕ) → IsIgnored fs.incoming → EndsLogIn fs calls → OpensIn fs (calls + clear_calls fs.incoming)

-- the files stand for no version and no image
abbrev pub StandsForNothing : Files → Type 0
StandsForNothing fs = (version : Version) (image : List ℕ) → ¬ StandsFor fs version image

-- an opening of these files is refused: where they stand for nothing, with length and head of the database file
abbrev pub RefusesFiles : Files → StoreFault → Type 0
RefusesFiles fs DiskFault = Unit {0}
RefusesFiles fs (BadLabel len head) = StandsForNothing fs × (len ≡ length fs.database) × IsHeadOf head fs.database
RefusesFiles fs (TooLarge bytes) = ⊥
RefusesFiles fs (NotNewer own given) = ⊥
RefusesFiles fs NoMemory = Unit {0}

-- What an opening, or a part of one, leaves of a disk, done or not; `In` says how many changing calls it makes of files. Where no put of a
-- committed log leaves a gap, a crash at any moment of it leaves files that stand for the same; plain files stay plain, so that it is so at any
-- crash of a later opening. It makes no more changing calls than one that is done.
pub record IsOpeningIn {D : Type 0} (In : Files → ℕ → Type 0) (g : Ghosts D) (old new : D) (failed : Type 0) : Type 0 where
  pub moments : IfSome (g.files old) (λ fs. IsGapless fs → (version : Version) (image : List ℕ) → StandsFor fs version image
      → LeavesOnly g.steps g.left_since old new (λ c. StandsFor c version image))
  pub plain : IfSome (g.files old) (λ fs. IsPlain fs → LeavesOnly g.steps g.left_since old new IsPlain)
  pub few : IfSome (g.files old) (λ fs. (calls : ℕ) → In fs calls → RisesAtMost calls (g.steps old) (g.steps new))
  pub stopped : IsStopped (g.stop new) → failed
  pub most : ℕ
  pub calls : CallsAtMost g most old new failed

abbrev pub IsOpening : {D : Type 0} → Ghosts D → (old new : D) → (failed : Type 0) → Type 0
IsOpening g old new failed = IsOpeningIn OpensIn g old new failed

-- What an opening, or a part of one, gives that is done: pages of the version and the image that the files stood for. `Left` says which
-- files are left of those before, and `In` how many changing calls it makes; nothing is pending.
pub record OpensAs {D : Type 0} (Left : Version → List ℕ → Files → Option Files → Type 0) (In : Files → ℕ → Type 0) (g : Ghosts D)
    (old new : D) (pages : Known) : Type 0 where
  pub stands : IfSome (g.files old) (λ fs. (version : Version) × (image : List ℕ) × StandsFor fs version image
      × Left version image fs (g.files new) × (pages.version ≡ Some version) × (pages.len ≡ length image))
  pub numbers : (version : Version) × (pages.version ≡ Some version) × IsVersion version
  pub len : pages.len ≤ MAX_IMAGE
  pub agrees : AgreesIn pages (g.files new)
  pub settled : IsSettled (g.files new) (g.may_leave new)
  pub steps : IfSome (g.files old) (λ fs. (calls : ℕ) → In fs calls → g.steps new ≡ g.steps old + calls)
  pub untold : g.files old ≡ None → g.files new ≡ None

-- the log was treated: it and the database file are at rest, and the incoming file is as it was
abbrev pub TreatsLog : {D : Type 0} → Ghosts D → (old new : D) → Known → Type 0
TreatsLog g old new pages = OpensAs (λ version image fs left. EndedAs version image fs.incoming left) EndsLogIn g old new pages

-- files at rest are left
abbrev pub OpensFiles : {D : Type 0} → Ghosts D → (old new : D) → Known → Type 0
OpensFiles g old new pages = OpensAs (λ version image _ left. RestsAs version image left) OpensIn g old new pages
