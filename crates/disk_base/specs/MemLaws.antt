-- The laws of a disk in memory: its moments, that a crash may leave what a read gives, and that it has room for it.
use Rattle.std.specs.Prelude.{◌≡◌, ℕ, ◌+◌, ◌<◌, ◌≤◌, true, List, [], ◌∷◌, Some, IsSome, IfSome, length, ◌↔◌}
use Rattle.std.proofs.Common.{subst, inl, inr, refl}
use Rattle.std.proofs.Math.Nat.{not-le_of_lt, lt_of_lt_of_le, le_of_lt}
use Rattle.std.proofs.Math.Numerals.{lt-add-one}
use Rattle.std.proofs.lemmas.Option.{same_Some}
use Rattle.disk_base.specs.declared.memory_disks.MemDisk.{MemDisk}
use Rattle.disk_base.specs.declared.disks.FileNo.{FileNo}
use Rattle.disk_base.specs.declared.disks.FileNo.TheVariants.{Database, Log, Incoming}
use Rattle.disk_base.specs.Files.{Files, file_of}
use Rattle.disk_base.specs.Pending.{Pending, MayLeave, LeftSince}
use Rattle.disk_base.specs.MemDisk.{now_of, pending_of, disk_room, disk_steps, disk_may_leave, disk_left_since, disk_tells}

-- a moment since then is now
pub counts_now : (disk : MemDisk) (t : ℕ) (c : Files) → t ≤ disk_steps disk → disk_may_leave disk c → disk_left_since disk t c
counts_now disk t c since now = inl (since, now)

-- there was none since a count that is not reached yet
pub none_later : (moments : List Pending) (steps since : ℕ) (c : Files) → steps < since → ¬ LeftSince moments steps since c
none_later [] steps since c later left = left
none_later (moment ∷ earlier) steps since c later (inl left) = not-le_of_lt later left.0
none_later (moment ∷ earlier) steps since c later (inr left) =
    none_later earlier steps (since + 1) c (lt_of_lt_of_le later (le_of_lt (lt-add-one since))) left

-- since the step count that stands now there was no other moment
pub only_now : (disk : MemDisk) (c : Files) → disk_left_since disk (disk_steps disk) c → disk_may_leave disk c
only_now disk c (inl left) = left.1
only_now disk c (inr left) =
    absurd (none_later disk.moments (disk_steps disk) (disk_steps disk + 1) c (lt-add-one (disk_steps disk)) left)

-- a crash may leave what a read gives
pub may_be_read : (disk : MemDisk) (fs : Files) → Some (now_of disk) ≡ Some fs → disk_may_leave disk fs
may_be_read disk fs same = subst (λ (c : Files). disk_may_leave disk c) (same_Some (now_of disk) fs same) (record {
  database = disk.files.database.may_be;
  log = disk.files.log.may_be;
  incoming = disk.files.incoming.may_be;
})

-- each file has room
pub has_room : (disk : MemDisk) (f : FileNo) → IfSome (Some (now_of disk)) (λ fs. length (file_of fs f) ≤ disk_room disk f)
has_room disk Database = disk.files.database.has_room
has_room disk Log = disk.files.log.has_room
has_room disk Incoming = disk.files.incoming.has_room

-- it tells both
pub tells_both : (disk : MemDisk) → IsSome (Some (pending_of disk)) → IsSome (Some (now_of disk))
tells_both disk told = told

-- it tells its files at all times
pub tells_now : (disk : MemDisk) → IsSome (Some (now_of disk)) → disk_tells disk ≡ true
tells_now disk told = refl

-- a crash may leave what the pending calls make of what was last synced, and nothing else
pub leaves_pending : (disk : MemDisk) → IfSome (Some (pending_of disk)) (λ p. (c : Files) → disk_may_leave disk c ↔ MayLeave p c)
leaves_pending disk = λ c. (λ left. left, λ left. left)
