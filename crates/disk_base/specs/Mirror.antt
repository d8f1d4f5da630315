-- What a mirror of three files holds, and what contracts see of it.
use Rattle.std.specs.Prelude.{◌≡◌, ℕ, false, ◌∷◌, length, Option, Some, vec_capacity}
use Rattle.disk_base.specs.declared.disks.FileNo.{FileNo}
use Rattle.disk_base.specs.declared.disks.FileNo.TheVariants.{Database, Log, Incoming}
use Rattle.disk_base.specs.declared.mirrors.Held.{Held}
use Rattle.disk_base.specs.declared.mirrors.Mirror.{Mirror}
use Rattle.disk_base.specs.declared.mirrored_disks.MostBytes.{MostBytes}
use Rattle.disk_base.specs.Files.{Files, three_files, file_of}
use Rattle.disk_base.specs.Crash.{Only}
use Rattle.disk_base.specs.Pending.{Pending, MayLeave, LeftSince, all_at_rest}

-- the contents
abbrev pub held_files : Held → Files
held_files held = three_files held.database.items held.log.items held.incoming.items

-- how many bytes of a file have memory
abbrev pub held_room : Held → FileNo → ℕ
held_room held Database = vec_capacity held.database
held_room held Log = vec_capacity held.log
held_room held Incoming = vec_capacity held.incoming

-- what reads give
abbrev pub mirror_now : Mirror → Files
mirror_now mirror = held_files mirror.held

abbrev pub mirror_room : Mirror → FileNo → ℕ
mirror_room mirror f = held_room mirror.held f

-- how many changing calls were made: each began one more moment
abbrev pub mirror_steps : Mirror → ℕ
mirror_steps mirror = length mirror.moments

abbrev pub mirror_faults : Mirror → ℕ
mirror_faults mirror = mirror.faults

-- what is pending now, a write and a cut that failed too: they may be done in part
abbrev pub mirror_pending : Mirror → Pending
mirror_pending mirror = mirror.pending

abbrev pub mirror_may_leave : Mirror → Files → Type 0
mirror_may_leave mirror c = MayLeave (mirror_pending mirror) c

abbrev pub mirror_left_since : Mirror → ℕ → Files → Type 0
mirror_left_since mirror since c = LeftSince (mirror_pending mirror ∷ mirror.moments) (mirror_steps mirror) since c

-- what is pending stays, and the moments
pub record KeepsMoments (old new : Mirror) : Type 0 where
  pub pending : new.pending ≡ old.pending
  pub moments : new.moments ≡ old.moments

-- these files, where a disk tells them, are those
abbrev pub AreTold : Option Files → Files → Type 0
AreTold files now = (fs : Files) → files ≡ Some fs → (f : FileNo) → file_of fs f ≡ file_of now f

-- all that may be left here may be left there
abbrev pub IsWithin : (here there : Files → Type 0) → Type 0
IsWithin here there = (c : Files) → here c → there c

-- how many bytes a file may have
abbrev pub most_of : MostBytes → FileNo → ℕ
most_of most Database = most.database
most_of most Log = most.log
most_of most Incoming = most.incoming

-- nothing is pending, and no call was made
pub record IsNewMirror (mirror : Mirror) : Type 0 where
  pub pending : mirror_pending mirror ≡ all_at_rest (mirror_now mirror)
  pub settled : Only (mirror_now mirror) (mirror_may_leave mirror)
  pub whole : mirror.broken ≡ false
  pub steps : mirror_steps mirror ≡ 0
  pub faults : mirror_faults mirror ≡ 0
