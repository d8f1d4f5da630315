-- What a disk in memory holds, and how its calls end.
use Rattle.std.specs.Prelude.{◌≡◌, ℕ, Bool, true, ◌∷◌, if◌then◌else◌}
use Rattle.disk_base.specs.declared.disks.FileNo.{FileNo}
use Rattle.disk_base.specs.declared.disks.FileNo.TheVariants.{Database, Log, Incoming}
use Rattle.disk_base.specs.declared.disks.DiskEnd.{DiskEnd}
use Rattle.disk_base.specs.declared.disks.DiskEnd.TheVariants as ends
use Rattle.disk_base.specs.declared.disks.LenEnd.{LenEnd}
use Rattle.disk_base.specs.declared.disks.LenEnd.TheVariants as lens
use Rattle.disk_base.specs.declared.memory_calls.Passage.{Passage}
use Rattle.disk_base.specs.declared.memory_calls.Passage.TheVariants.{Passes, Stops, Fails}
use Rattle.disk_base.specs.declared.memory_files.MemFile.{MemFile}
use Rattle.disk_base.specs.declared.memory_disks.MemFiles.{MemFiles}
use Rattle.disk_base.specs.declared.memory_disks.MemDisk.{MemDisk}
use Rattle.disk_base.specs.declared.plans.Plan.{Plan}
use Rattle.disk_base.specs.Files.{Files}
use Rattle.disk_base.specs.MemFile.{content_of, room_of, state_in}
use Rattle.disk_base.specs.MemCalls.{stop_of, passage_of, fails_now}
use Rattle.disk_base.specs.Pending.{Pending, MayLeave, LeftSince}
use Rattle.disk_base.specs.Stops.{DiskStop}

abbrev pub file_at : MemFiles → FileNo → MemFile
file_at files Database = files.database
file_at files Log = files.log
file_at files Incoming = files.incoming

-- what reads give
abbrev pub now_in : MemFiles → Files
now_in files = record {
  database = content_of files.database;
  log = content_of files.log;
  incoming = content_of files.incoming;
}

-- what is pending
abbrev pub pending_in : MemFiles → Pending
pending_in files = record {
  database = state_in files.database;
  log = state_in files.log;
  incoming = state_in files.incoming;
}

-- how many bytes of a file have room
abbrev pub room_in : MemFiles → FileNo → ℕ
room_in files f = room_of (file_at files f)

abbrev pub now_of : MemDisk → Files
now_of disk = now_in disk.files

abbrev pub disk_room : MemDisk → FileNo → ℕ
disk_room disk f = room_in disk.files f

abbrev pub disk_stop : MemDisk → DiskStop
disk_stop disk = stop_of disk.calls

abbrev pub disk_steps : MemDisk → ℕ
disk_steps disk = disk.calls.steps

abbrev pub disk_faults : MemDisk → ℕ
disk_faults disk = disk.calls.faults

-- how often a call has failed that no stop brought
abbrev pub disk_own_faults : MemDisk → ℕ
disk_own_faults disk = disk.calls.own_faults

-- it tells its files
abbrev pub disk_tells : MemDisk → Bool
disk_tells disk = true

-- what is pending now
abbrev pub pending_of : MemDisk → Pending
pending_of disk = pending_in disk.files

abbrev pub disk_may_leave : MemDisk → Files → Type 0
disk_may_leave disk c = MayLeave (pending_of disk) c

-- what was pending at each moment is kept since the disk was made, or was last revived
abbrev pub disk_left_since : MemDisk → ℕ → Files → Type 0
disk_left_since disk since c = LeftSince (pending_of disk ∷ disk.moments) (disk_steps disk) since c

-- which calls are to fail, and how many were made
abbrev pub disk_plan : MemDisk → Plan
disk_plan disk = disk.calls.plan

-- whether the next call fails, if it changes no file
abbrev pub disk_fails : MemDisk → Bool
disk_fails disk = fails_now disk.calls

-- what becomes of the next call, if it changes a file
abbrev pub disk_passage : MemDisk → Passage
disk_passage disk = passage_of disk.calls

-- a call that fails for its number or a stop, and is done otherwise
abbrev pub done_unless : Bool → DiskEnd
done_unless failed = if failed then ends.Failed else ends.Done

abbrev pub known_unless : Bool → ℕ → LenEnd
known_unless failed len = if failed then lens.Failed else lens.Known len

-- how a changing call ends that takes no memory
abbrev pub end_of : Passage → DiskEnd
end_of Passes = ends.Done
end_of Stops = ends.Failed
end_of Fails = ends.Failed

-- a changing call that did not pass has failed
abbrev pub FailsUnlessPassed : Passage → DiskEnd → Type 0
FailsUnlessPassed Passes end = Unit {0}
FailsUnlessPassed Stops end = end ≡ ends.Failed
FailsUnlessPassed Fails end = end ≡ ends.Failed
