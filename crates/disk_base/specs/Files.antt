-- The three files of a disk, and what its calls make of them.
use Rattle.std.specs.Prelude.{ℕ, ◌+◌, ◌≤◌, List, [], ◌++◌, length, take, drop}
use Rattle.disk_base.specs.declared.disks.FileNo.{FileNo}
use Rattle.disk_base.specs.declared.disks.FileNo.TheVariants.{Database, Log, Incoming}
use Rattle.disk_base.specs.declared.disks.DiskEnd.{DiskEnd}
use Rattle.disk_base.specs.declared.disks.DiskEnd.TheVariants as ends
use Rattle.disk_base.specs.declared.disks.LenEnd.{LenEnd}
use Rattle.disk_base.specs.declared.disks.LenEnd.TheVariants as lens

pub record Files : Type 0 where
  pub database : List ℕ
  pub log : List ℕ
  pub incoming : List ℕ

-- three empty files
abbrev pub no_files : Files
no_files = record { database = []; log = []; incoming = [] }

-- files of these contents
abbrev pub three_files : (database log incoming : List ℕ) → Files
three_files database log incoming = record { database = database; log = log; incoming = incoming }

abbrev pub file_of : Files → FileNo → List ℕ
file_of fs Database = fs.database
file_of fs Log = fs.log
file_of fs Incoming = fs.incoming

-- the files with another content of one of them
abbrev pub with_file : Files → FileNo → List ℕ → Files
with_file fs Database bytes = record fs { database = bytes }
with_file fs Log bytes = record fs { log = bytes }
with_file fs Incoming bytes = record fs { incoming = bytes }

-- a file with these bytes laid over it from a position on
abbrev pub laid : List ℕ → ℕ → List ℕ → List ℕ
laid file at bytes = take at file ++ bytes ++ drop (at + length bytes) file

abbrev pub OnDone : DiskEnd → Type 0 → Type 0
OnDone ends.Done P = P
OnDone ends.Failed P = Unit {0}

abbrev pub OnKnown : LenEnd → (ℕ → Type 0) → Type 0
OnKnown (lens.Known n) P = P n
OnKnown lens.Failed P = Unit {0}

-- no file loses room
abbrev pub KeepsRoom : (FileNo → ℕ) → (FileNo → ℕ) → Type 0
KeepsRoom before after = (f : FileNo) → before f ≤ after f
