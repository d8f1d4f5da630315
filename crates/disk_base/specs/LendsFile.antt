-- The files of a disk in memory, one of which is lent to be changed.
use Rattle.std.specs.Borrow.{Lends, MutBor, Fml}
use Rattle.disk_base.specs.declared.disks.FileNo.{FileNo}
use Rattle.disk_base.specs.declared.disks.FileNo.TheVariants.{Database, Log, Incoming}
use Rattle.disk_base.specs.declared.memory_files.MemFile.{MemFile}
use Rattle.disk_base.specs.declared.memory_disks.MemFiles.{MemFiles}
use Rattle.disk_base.specs.contracts.memory_files.MemFile as lent
use Rattle.disk_base.specs.contracts.memory_disks.MemFiles as lender

-- the files with another one in the place of one of them
abbrev pub with_mem_file : MemFiles → FileNo → MemFile → MemFiles
with_mem_file files Database file = record files { database = file }
with_mem_file files Log file = record files { log = file }
with_mem_file files Incoming file = record files { incoming = file }

-- in the end the files hold the lent one as it was left
abbrev pub LendsFile : MutBor MemFiles → FileNo → MutBor MemFile → Fml
LendsFile files f file = Lends lender.the_row lent.the_row files file (with_mem_file files.now f)
