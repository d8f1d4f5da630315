-- How a server ends: why its workers have ended, or why it was not opened (own).
use Rattle.std.specs.Prelude.{◌≡◌, ◌≢◌, ◌<◌, ◌≤◌, ◌⊎◌, ℕ, List, true, Option, Some, None, IfSome, IsNone, IsSomeAnd, Result, Ok, Err}
use Rattle.ubik_types.specs.declared.versions.Version.{Version}
use Rattle.disk_base.specs.declared.disks.Disk.{Ghosts}
use Rattle.disk_base.specs.Crash.{IsSettled}
use Rattle.disk_base.specs.Files.{Files}
use Rattle.disk_base.specs.Runs.{OnlyReads}
use Rattle.server_crew.specs.declared.running.CrewEnd.{CrewEnd}
use Rattle.server_crew.specs.declared.running.CrewEnd.TheVariants as crew
use Rattle.ubik_store.specs.declared.faults.StoreFault.{StoreFault}
use Rattle.ubik_store.specs.declared.faults.StoreFault.TheVariants as fault
use Rattle.ubik_store.specs.Files.{StandsFor}
use Rattle.ubik_store.specs.Opening.{IsOpening, RefusesFiles}
use Rattle.server_journal.specs.declared.counts.Limits.{Limits}
use Rattle.server_journal.specs.declared.items.JournalItem.{JournalItem}
use Rattle.server_texts.specs.Words.{Named}
use Rattle.server_texts.specs.declared.words.WordsFault.{WordsFault}
use Rattle.server_texts.specs.declared.words.WordsFault.TheVariants.{Word, NoMemory}
use Rattle.server_texts.specs.declared.kinds.ServerKind.{ServerKind}
use Rattle.server_texts.specs.declared.kinds.ServerKind.TheVariants as kind
use Rattle.node_server.specs.declared.ends.ServerRun.{ServerRun}
use Rattle.node_server.specs.Causes.{was_full}

abbrev pub kind_of_end : CrewEnd → ServerKind
kind_of_end crew.Closed = kind.Closed
kind_of_end crew.NoThread = kind.NoThread
kind_of_end (crew.JournalFull entries bytes) = kind.JournalFull entries bytes
kind_of_end crew.Halted = kind.DiskFault
kind_of_end crew.NoMemory = kind.NoMemory

-- how a server ends that its store refuses
abbrev pub kind_of_fault : StoreFault → ServerKind
kind_of_fault fault.DiskFault = kind.DiskFault
kind_of_fault (fault.BadLabel len head) = kind.BadFiles len head
kind_of_fault (fault.TooLarge bytes) = kind.NoMemory
kind_of_fault (fault.NotNewer own given) = kind.NoMemory
kind_of_fault fault.NoMemory = kind.NoMemory

-- a server that ends for its files shows the length and the head of those that are refused
abbrev pub ShowsFiles : Files → ServerKind → Type 0
ShowsFiles fs (kind.BadFiles len head) = RefusesFiles fs (fault.BadLabel len head)
ShowsFiles fs _ = Unit {0}

-- the ends of a server that was not opened
abbrev pub IsNotRun : ServerKind → Type 0
IsNotRun (kind.Words place) = Unit {0}
IsNotRun (kind.BadFiles len head) = Unit {0}
IsNotRun kind.DiskFault = Unit {0}
IsNotRun kind.NoMemory = Unit {0}
IsNotRun _ = ⊥

-- the ends of a server whose words fit
abbrev pub IsNotForWords : ServerKind → Type 0
IsNotForWords (kind.Words place) = ⊥
IsNotForWords _ = Unit {0}

-- how a server ends whose words are refused
abbrev pub kind_of_words : WordsFault → ServerKind
kind_of_words (Word place) = kind.Words place
kind_of_words NoMemory = kind.NoMemory

-- A server ends for its words exactly where they mean nothing, and names the first place that does not fit. Want of memory is free.
abbrev pub FollowsWords : Result Named WordsFault → ServerKind → Type 0
FollowsWords (Ok named) ended = IsNotForWords ended
FollowsWords (Err fault) ended = ended ≢ kind.NoMemory → ended ≡ kind_of_words fault

-- the files stand for a version and an image
abbrev pub StandsForSome : Files → Type 0
StandsForSome fs = (version : Version) × (image : List ℕ) × StandsFor fs version image

-- nothing is pending on the disk, and its files stand for a version and an image
abbrev pub IsQuiet : {D : Type 0} → Ghosts D → D → Type 0
IsQuiet g disk = IsSettled (g.files disk) (g.may_leave disk) × IfSome (g.files disk) StandsForSome

-- both stand for one version and one image
abbrev pub StandAlike : (before now : Files) → Type 0
StandAlike before now = (version : Version) × (image : List ℕ) × StandsFor before version image × StandsFor now version image

-- nothing is pending on a disk, and where its files were told and stood for something, they stand for that
abbrev pub ReadsAsBefore : {D : Type 0} → Ghosts D → (old new : D) → Type 0
ReadsAsBefore g old new =
    IsSettled (g.files new) (g.may_leave new) × IfSome (g.files old) (λ fs. StandsForSome fs → IsSomeAnd (g.files new) (StandAlike fs))

-- The disk of a server that was not opened, and ended so: it was not touched for its words, it was only read where its files are refused, and it
-- reads as before where memory ran out.
abbrev pub LeavesUnopened : {D : Type 0} → Ghosts D → (old new : D) → ServerKind → Type 0
LeavesUnopened g old new (kind.Words place) = new ≡ old
LeavesUnopened g old new (kind.BadFiles len head) = OnlyReads g old new ⊥
LeavesUnopened g old new kind.NoMemory = ReadsAsBefore g old new
LeavesUnopened g old new _ = Unit {0}

-- The disk that comes back. Of a server that was not opened it is the one handed in, or what the opening of a store leaves of that; where the disk
-- failed, so does a crash. Of one that was it is quiet, unless it has failed.
abbrev pub GivesBack : {D J : Type 0} → Ghosts D → (old new : D) → ServerKind → Option (ServerRun J) → Type 0
GivesBack g old new ended None = LeavesUnopened g old new ended × ((new ≡ old) ⊎ IsOpening g old new (ended ≡ kind.DiskFault))
GivesBack g old new ended (Some run) = (g.faults old ≤ g.faults new) × ((g.faults old < g.faults new) ⊎ IsQuiet g new)

-- the ends that neither words nor files nor a fault of the disk bring
abbrev pub IsUnforced : ServerKind → Type 0
IsUnforced kind.Closed = Unit {0}
IsUnforced kind.NoThread = Unit {0}
IsUnforced (kind.JournalFull entries bytes) = Unit {0}
IsUnforced kind.NoMemory = Unit {0}
IsUnforced _ = ⊥

-- Where the words fit, the files stand for something, and the disk did not fail, a server ends in no other way.
abbrev pub IsComplete : {D : Type 0} → Ghosts D → (old new : D) → Result Named WordsFault → ServerKind → Type 0
IsComplete g old new (Ok named) ended = IsSomeAnd (g.files old) StandsForSome → g.faults new ≡ g.faults old → IsUnforced ended
IsComplete g old new (Err fault) ended = Unit {0}

-- What shows why a server ended so, beside its words: the net that may close by itself, the spawner that may refuse, its journal, which keeps to
-- these limits, its disk and its files; whether it was opened; and what comes back.
pub record Explains {D J : Type 0} (g : Ghosts D) (items_of : J → List JournalItem) (limits_of : J → Limits) (limits : Limits)
    (may_close may_refuse : Type 0) (old new : D) (ended : ServerKind) (ran : Option (ServerRun J)) : Type 0 where
  pub closed : ended ≡ kind.Closed → may_close
  pub refused : ended ≡ kind.NoThread → may_refuse
  pub journal_full : (entries bytes : ℕ) → ended ≡ kind.JournalFull entries bytes
      → IfSome ran (λ r. was_full limits (items_of r.journal) entries bytes ≡ true)
  pub disk_fault : ended ≡ kind.DiskFault → g.faults old < g.faults new
  pub bad_files : IfSome (g.files old) (λ fs. ShowsFiles fs ended)
  pub run : IsNone ran → IsNotRun ended
  pub opened : IfSome ran (λ _. IfSome (g.files old) StandsForSome)
  pub kept : IfSome ran (λ r. limits_of r.journal ≡ limits)
  pub disk : GivesBack g old new ended ran
