-- What is pending on a disk, and what a crash may leave by it: now, and at earlier moments.
use Rattle.std.specs.Prelude.{◌⊎◌, ℕ, ◌+◌, ◌≤◌, List, [], ◌∷◌, ◌++◌}
use Rattle.disk_base.specs.declared.disks.FileNo.{FileNo}
use Rattle.disk_base.specs.declared.disks.FileNo.TheVariants.{Database, Log, Incoming}
use Rattle.disk_base.specs.declared.touches.Touch.{Touch}
use Rattle.disk_base.specs.declared.touches.Touch.TheVariants.{Wrote, Cut}
use Rattle.disk_base.specs.Files.{Files}
use Rattle.disk_base.specs.Touches.{MayBe}

-- a file as it was last synced, and the changing calls since
pub record FileState : Type 0 where
  pub synced : List ℕ
  pub touches : List Touch

-- what is pending on a disk: the states of its three files
pub record Pending : Type 0 where
  pub database : FileState
  pub log : FileState
  pub incoming : FileState

abbrev pub file_state : Pending → FileNo → FileState
file_state p Database = p.database
file_state p Log = p.log
file_state p Incoming = p.incoming

-- the same with another state of one of the files
abbrev pub with_state : Pending → FileNo → FileState → Pending
with_state p Database state = record p { database = state }
with_state p Log state = record p { log = state }
with_state p Incoming state = record p { incoming = state }

-- the state after one more changing call
abbrev pub touched : FileState → Touch → FileState
touched state touch = record state { touches = state.touches ++ touch ∷ [] }

-- the state of a file with these bytes, all of them synced
abbrev pub at_rest : List ℕ → FileState
at_rest bytes = record { synced = bytes; touches = [] }

-- what is pending after one more changing call of a file
abbrev pub after_touch : FileNo → Touch → Pending → Pending
after_touch f touch p = with_state p f (touched (file_state p f) touch)

-- what is pending after a write of so many bytes of a file, from a position on
abbrev pub after_write : FileNo → (at len : ℕ) → Pending → Pending
after_write f at len p = with_state p f (touched (file_state p f) (Wrote at len))

-- what is pending after a cut of a file to a length
abbrev pub after_cut : FileNo → (len : ℕ) → Pending → Pending
after_cut f len p = with_state p f (touched (file_state p f) (Cut len))

-- what is pending after a sync of a file that has these bytes: of that file nothing
abbrev pub after_sync : FileNo → List ℕ → Pending → Pending
after_sync f bytes p = with_state p f (at_rest bytes)

-- nothing is pending of any of these files
abbrev pub all_at_rest : Files → Pending
all_at_rest fs = record {
  database = at_rest fs.database;
  log = at_rest fs.log;
  incoming = at_rest fs.incoming;
}

-- what a crash may leave where this is pending
pub record MayLeave (p : Pending) (c : Files) : Type 0 where
  pub database : MayBe p.database.synced p.database.touches c.database
  pub log : MayBe p.log.synced p.log.touches c.log
  pub incoming : MayBe p.incoming.synced p.incoming.touches c.incoming

-- What a crash may have left since a step count. The list has what was pending at each moment of the disk: the first at its
-- present step count, and each other one step before.
abbrev pub LeftSince : List Pending → (steps since : ℕ) → Files → Type 0
LeftSince [] steps since c = ⊥
LeftSince (p ∷ earlier) steps since c = ((since ≤ steps) × MayLeave p c) ⊎ LeftSince earlier steps (since + 1) c
