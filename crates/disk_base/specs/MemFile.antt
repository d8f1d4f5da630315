-- What a file in memory holds.
use Rattle.std.specs.Prelude.{ℕ, List}
use Rattle.disk_base.specs.declared.memory_files.MemFile.{MemFile}
use Rattle.disk_base.specs.declared.touches.Touch.{Touch}
use Rattle.disk_base.specs.Undos.{all_undone, touches_in}
use Rattle.disk_base.specs.Pending.{FileState}

-- what a read gives
abbrev pub content_of : MemFile → List ℕ
content_of file = file.bytes.items

-- what was last synced
abbrev pub synced_of : MemFile → List ℕ
synced_of file = all_undone file.undos.items file.bytes.items

-- the changing calls since, in their order
abbrev pub touches_of : MemFile → List Touch
touches_of file = touches_in file.undos.items

-- how many bytes have room
abbrev pub room_of : MemFile → ℕ
room_of file = file.room

-- what was last synced, and the changing calls since
abbrev pub state_in : MemFile → FileState
state_in file = record { synced = synced_of file; touches = touches_of file }
