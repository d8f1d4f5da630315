-- The counts of a disk over a folder, and why one is not opened.
use Rattle.std.specs.Prelude.{ℕ, ◌≡◌, Bool, true, false}
use Rattle.std.specs.declared.io.ErrorKind.{ErrorKind}
use Rattle.std.specs.declared.io.ErrorKind.TheVariants.{OutOfMemory}
use Rattle.disk_base.specs.declared.file_disks.FileDisk.{FileDisk}
use Rattle.disk_base.specs.declared.file_disks.OpenFault.{OpenFault}
use Rattle.disk_base.specs.declared.file_disks.OpenFault.TheVariants.{Failed, NoMemory}

-- how many changing calls were made
abbrev pub file_steps : FileDisk → ℕ
file_steps disk = disk.steps

-- how often a call has failed
abbrev pub file_faults : FileDisk → ℕ
file_faults disk = disk.faults

-- what an error of the system means where a folder is opened
abbrev pub fault_of : ErrorKind → OpenFault
fault_of OutOfMemory = NoMemory
fault_of _ = Failed

-- it tells nothing
pub untold : {A : Type 0} → ◌≡◌ {A = Bool} false true → A
untold none = absurd cc
