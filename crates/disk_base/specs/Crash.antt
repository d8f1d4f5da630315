-- What a crash may leave of the files (own; a torn write as in any journal's model of a disk).
use Rattle.std.specs.Prelude.{◌≡◌, ◌⊎◌, ◌≤◌, ℕ, ◌+◌, max, List, length, take, drop, Option, IfSome}
use Rattle.disk_base.specs.declared.disks.FileNo.{FileNo}
use Rattle.disk_base.specs.Files.{Files, file_of, with_file}

-- After a write of n bytes that a crash cut short: any bytes in the range, an end between the old one and that
-- of the range, and the same bytes elsewhere.
pub record Torn (at n : ℕ) (old new : List ℕ) : Type 0 where
  pub before : take at new ≡ take at old
  pub after : drop (at + n) new ≡ drop (at + n) old
  pub no_shorter : length old ≤ length new
  pub no_longer : length new ≤ max (length old) (at + n)

-- after a cut to a length: it has not happened, or has in part, or whole
abbrev pub CutShort : ℕ → List ℕ → List ℕ → Type 0
CutShort len old new = (new ≡ old) ⊎ (len ≤ length new) × (new ≡ take (length new) old)

-- a step of one file; the other files stay
abbrev pub InFile : FileNo → (List ℕ → List ℕ → Type 0) → Files → Files → Type 0
InFile f step old new = (new ≡ with_file old f (file_of new f)) × step (file_of old f) (file_of new f)

-- each thing that may be left now is one that might have been left before, after a step
abbrev pub Follows : (Files → Files → Type 0) → (Files → Type 0) → (Files → Type 0) → Type 0
Follows step before now = (c : Files) → now c → (d : Files) × before d × step d c

-- all that may be left now might have been left before
abbrev pub Narrows : (Files → Type 0) → (Files → Type 0) → Type 0
Narrows before now = (c : Files) → now c → before c

-- A call of one file: what a crash may leave of the other files is as before.
pub record OthersStay (f : FileNo) (before now : Files → Type 0) : Type 0 where
  pub no_more : (c : Files) → now c → (d : Files) × before d × (c ≡ with_file d f (file_of c f))
  pub no_less : (d : Files) → before d → (c : Files) × now c × (d ≡ with_file c f (file_of d f))

-- the same, kept folded: a search would go back and forth between its two ways
unfoldable pub LeavesOthers : FileNo → (Files → Type 0) → (Files → Type 0) → Type 0
LeavesOthers f before now = OthersStay f before now

-- a crash leaves these files and no others
abbrev pub Only : Files → (Files → Type 0) → Type 0
Only files may_leave = (c : Files) → may_leave c → c ≡ files

-- a crash leaves these bytes of a file and no others
abbrev pub OnlyIn : FileNo → List ℕ → (Files → Type 0) → Type 0
OnlyIn f bytes may_leave = (c : Files) → may_leave c → file_of c f ≡ bytes

-- nothing is pending: where the disk tells its files, a crash leaves what a read gives
abbrev pub IsSettled : Option Files → (Files → Type 0) → Type 0
IsSettled files may_leave = IfSome files (λ fs. Only fs may_leave)

-- Steps go on: what a crash since a step count may have left is what one might have left before this call, or
-- what one may leave now.
pub record Elapses (before : ℕ) (past since : ℕ → Files → Type 0) (may_leave : Files → Type 0) : Type 0 where
  pub nothing_else : (t : ℕ) (c : Files) → t ≤ before → since t c → past t c ⊎ may_leave c
  pub keeps : (t : ℕ) (c : Files) → t ≤ before → past t c → since t c

-- The moments begin anew: what a crash may have left since any step count is what one may leave now.
abbrev pub BeginsAnew : (since : ℕ → Files → Type 0) → (may_leave : Files → Type 0) → Type 0
BeginsAnew since may_leave = (t : ℕ) (c : Files) → since t c → may_leave c

-- a call that changes no file leaves what a crash may leave, and what one may have left
pub record LeavesSame (before now : Files → Type 0) (past since : ℕ → Files → Type 0) : Type 0 where
  pub no_more : (c : Files) → now c → before c
  pub no_less : (c : Files) → before c → now c
  pub since_no_more : (t : ℕ) (c : Files) → since t c → past t c
  pub since_no_less : (t : ℕ) (c : Files) → past t c → since t c

-- files that a crash might have left before, after a step
abbrev pub After : (Files → Files → Type 0) → (Files → Type 0) → Files → Type 0
After step before c = (d : Files) × before d × step d c

-- a count rises by this number at most, and does not fall
abbrev pub RisesAtMost : ℕ → ℕ → ℕ → Type 0
RisesAtMost most before after = (before ≤ after) × (after ≤ before + most)

-- A crash at some moment from a step count on leaves files that have P: of a run of calls from a disk to
-- another one.
pub record LeavesOnly {D : Type 0} (steps : D → ℕ) (left_since : D → ℕ → Files → Type 0) (old new : D) (P : Files → Type 0) : Type 0 where
  pub later : steps old ≤ steps new
  pub each : (c : Files) → left_since new (steps old) c → P c
  -- for a run that began earlier
  pub before : (t : ℕ) (c : Files) → t ≤ steps old → left_since new t c → left_since old t c ⊎ P c
