-- One more moment of a disk in memory.
use Rattle.std.proofs.Common.{◌∙◌, ◌≡◌, inl, inr, ℕ, ◌+◌, List, [], ◌∷◌, arith}
use Rattle.disk_base.specs.Files.{Files}
use Rattle.disk_base.specs.Crash.{Elapses}
use Rattle.disk_base.specs.Pending.{Pending, MayLeave, LeftSince}
use Rattle.disk_base.specs.declared.memory_disks.MemDisk.{MemDisk}
use Rattle.disk_base.specs.MemDisk.{pending_of, disk_steps, disk_left_since, disk_may_leave}

-- counts that are both one more
step_back : (moments : List Pending) (n t : ℕ) (c : Files) → LeftSince moments (n + 1) (t + 1) c → LeftSince moments n t c
step_back [] n t c left = left
step_back (moment ∷ earlier) n t c (inl left) = inl (omega (arith, left.0), left.1)
step_back (moment ∷ earlier) n t c (inr left) = inr (step_back earlier n (t + 1) c left)

step_on : (moments : List Pending) (n t : ℕ) (c : Files) → LeftSince moments n t c → LeftSince moments (n + 1) (t + 1) c
step_on [] n t c left = left
step_on (moment ∷ earlier) n t c (inl left) = inl (omega (arith, left.0), left.1)
step_on (moment ∷ earlier) n t c (inr left) = inr (step_on earlier n (t + 1) c left)

pub elapses : (moments : List Pending) (n : ℕ) (now : Pending)
    → Elapses n (LeftSince moments n) (LeftSince (now ∷ moments) (n + 1)) (MayLeave now)
elapses moments n now = record {
  nothing_else = λ t c within left. elim left [ inl here ↦ inr here.1 | inr before ↦ inl (step_back moments n t c before) ];
  keeps = λ t c within left. inr (step_on moments n t c left);
}

-- a changing call
pub Elapses-call : (old new : MemDisk) → new.moments ≡ pending_of old ∷ old.moments → disk_steps new ≡ disk_steps old + 1
    → Elapses (disk_steps old) (disk_left_since old) (disk_left_since new) (disk_may_leave new)
Elapses-call old new earlier steps = rw (earlier, steps) (elapses (pending_of old ∷ old.moments) (disk_steps old) (pending_of new))

-- one that is ended
pub Elapses-ended : (old begun new : MemDisk) → begun.moments ≡ pending_of old ∷ old.moments → disk_steps begun ≡ disk_steps old + 1
    → new.moments ≡ begun.moments → disk_steps new ≡ disk_steps begun
    → Elapses (disk_steps old) (disk_left_since old) (disk_left_since new) (disk_may_leave new)
Elapses-ended old begun new earlier steps same_moments same_steps =
    Elapses-call old new (same_moments ∙ earlier) (same_steps ∙ steps)
