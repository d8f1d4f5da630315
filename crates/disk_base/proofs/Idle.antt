-- A call that changes nothing, which each of the steps allows.
use Rattle.std.proofs.Common.{◌≡◌, inl, ℕ, List, refl, arith}
use Rattle.disk_base.specs.declared.disks.FileNo.{FileNo}
use Rattle.disk_base.specs.declared.disks.FileNo.TheVariants.{Database, Log, Incoming}
use Rattle.disk_base.specs.Files.{Files, file_of, with_file}
use Rattle.disk_base.specs.Crash.{Torn, CutShort, InFile, Follows, LeavesOthers}

pub Torn-idle : (at len : ℕ) (bytes : List ℕ) → Torn at len bytes bytes
Torn-idle at len bytes = record { before = refl; after = refl; no_shorter = omega arith; no_longer = omega arith }

pub CutShort-idle : (len : ℕ) (bytes : List ℕ) → CutShort len bytes bytes
CutShort-idle len bytes = inl refl

-- the files with what a file holds
pub same_file : (c : Files) (f : FileNo) → c ≡ with_file c f (file_of c f)
same_file c Database = refl
same_file c Log = refl
same_file c Incoming = refl

-- what may be left stays
pub Follows-idle : (step : List ℕ → List ℕ → Type 0) → ((bytes : List ℕ) → step bytes bytes) → (may_leave : Files → Type 0) (f : FileNo)
    → Follows (InFile f step) may_leave may_leave
Follows-idle step idle may_leave f = λ c left. (c, left, (same_file c f, idle (file_of c f)))

pub LeavesOthers-idle : (may_leave : Files → Type 0) (f : FileNo) → LeavesOthers f may_leave may_leave
unfolding LeavesOthers
LeavesOthers-idle may_leave f = record {
  no_more = λ c left. (c, left, same_file c f);
  no_less = λ d left. (d, left, same_file d f);
}
